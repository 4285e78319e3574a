-- Strings in memory and in files: a zero byte ends them (C).
use Rattle.std.specs.Prelude.{ℕ, ◌==◌, Option, unwrap_or, List, length, take, position}

-- the index of the first zero byte
abbrev pub first_zero : List ℕ → Option ℕ
first_zero bytes = position (λ byte. byte == 0) bytes

-- the bytes before the first zero byte; all of them where no byte is zero
abbrev pub before_zero : List ℕ → List ℕ
before_zero bytes = take (unwrap_or (first_zero bytes) (length bytes)) bytes
