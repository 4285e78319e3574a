-- What was found, by what was read of it, and the words of memory.
use Rattle.std.proofs.Common.{◌≡◌, ℕ, false, Option, Some, None, List, refl, ap, sym, ◌∙◌}
use Rattle.std.specs.Prelude.{is_some, option_map}
use Rattle.iop_base.specs.Numbers.{number_at, word_at}
use Rattle.iop_mbx.specs.Mailboxes.{without_messages}
use Rattle.iop_objects.specs.Objects.{Object, object_of}
use Rattle.iop_stubs.specs.Stubs.{Memory}
use Rattle.iop_kernel.specs.Mailboxes.{LiveMailbox}

-- no object of an id is live where nothing is known of it
pub no_object : {A W : Type 0} (live : List (Object A W)) (id : ℕ)
    → is_some (option_map (λ o. o.state) (object_of live id)) ≡ false → object_of live id ≡ None
no_object {A} {W} live id is = by (object_of live id) is
  where
    by : (o : Option (Object A W)) → is_some (option_map (λ o. o.state) o) ≡ false → o ≡ None
    by None is = refl
    by (Some o) is = absurd (cc is)

-- nor where nothing is told of it
pub none_told : {A W B : Type 0} (f : A → B) (live : List (Object A W)) (id : ℕ)
    → None ≡ option_map f (option_map (λ o. o.state) (object_of live id))
    → object_of live id ≡ None
none_told {A} {W} f live id is = by (object_of live id) is
  where
    by : (o : Option (Object A W)) → None ≡ option_map f (option_map (λ o. o.state) o)
        → o ≡ None
    by None is = refl
    by (Some o) is = cc

-- no mailbox of an id is live where nothing is known of it beside its messages
pub no_mailbox : (live : List LiveMailbox) (id : ℕ)
    → None ≡ option_map without_messages (option_map (λ o. o.state) (object_of live id))
    → object_of live id ≡ None
no_mailbox = none_told without_messages

-- what was read is of something
pub one_read : {A B : Type 0} (f : A → B) (o : Option A) {y : B} → Some y ≡ option_map f o
    → (x : A) × (o ≡ Some x) × (y ≡ f x)
one_read f None is = cc
one_read f (Some x) is = (x, refl, cc)

-- a word of memory is what was read
pub word_read : (memory : Memory) (at : ℕ) {ram : List ℕ} {word : ℕ} → ram ≡ memory.ram
    → word ≡ word_at ram at → number_at memory.ram at 4 ≡ word
unfolding word_at
word_read memory at same read =
    sym (read ∙ ap (λ (ram : List ℕ). number_at ram at 4) same)
