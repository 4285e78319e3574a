-- The module information of an IRX file (ps2sdk's iopmod section). That a part of fewer than 27
-- bytes, or without a zero byte behind the name, is none is this project's own profile.
use Rattle.std.specs.Prelude.{ℕ, nat_le, if◌then◌else◌, Option, None, option_map, List, length, take, drop}
use Rattle.iop_base.specs.Numbers.{number_at}
use Rattle.iop_base.specs.Strings.{first_zero}
use Rattle.irx_info.specs.declared.info.Info.{Info}

pub record Information : Type 0 where
  pub id : ℕ
  pub entry : ℕ
  pub gp : ℕ
  pub text_size : ℕ
  pub data_size : ℕ
  pub bss_size : ℕ
  pub version : ℕ
  pub name : List ℕ

-- the same as the program holds it
abbrev pub information_of : Info → Information
information_of info = record {
  id = info.id;
  entry = info.entry;
  gp = info.gp;
  text_size = info.text_size;
  data_size = info.data_size;
  bss_size = info.bss_size;
  version = info.version;
  name = info.name.now;
}

-- six words, a half word, and a name of so many bytes
abbrev pub information_with : List ℕ → ℕ → Information
information_with part size = record {
  id = number_at part 0 4;
  entry = number_at part 4 4;
  gp = number_at part 8 4;
  text_size = number_at part 12 4;
  data_size = number_at part 16 4;
  bss_size = number_at part 20 4;
  version = number_at part 24 2;
  name = take size (drop 26 part);
}

-- what a part of at least 27 bytes says, whose name goes up to the first zero byte from place 26 on
abbrev pub information_in : List ℕ → Option Information
information_in part =
    if nat_le 27 (length part) then option_map (information_with part) (first_zero (drop 26 part))
    else None
