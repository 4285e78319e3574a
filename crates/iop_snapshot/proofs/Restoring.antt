-- Lists that are read one item after the other.
use Rattle.std.proofs.Common.{◌≡◌, ℕ, suc, ◌+◌, ◌-◌, ◌<◌, ◌≤◌, Option, Some, None, Result, List, [], ◌∷◌, ◌++◌, get_or, refl, sym, ap, ◌∙◌, append_assoc, append-nil, arith}
use Rattle.std.specs.Prelude.{MatchResult, option_map}
use Rattle.iop_snapshot.specs.declared.fault.SnapFault.{SnapFault}
use Rattle.iop_snapshot.specs.declared.fault.SnapFault.TheVariants.{Bad, Memory}
use Rattle.iop_snapshot.specs.declared.widths.TheConstants.{COUNT}
use Rattle.iop_snapshot.specs.Items.{read_item}
use Rattle.iop_snapshot.specs.Forms.{Form, in_front, read_items, read_list}
use Rattle.iop_snapshot.specs.Reading.{GivesNone}

module _ {X : Type 0} where
  abbrev behind : List X → Option (List X × List ℕ) → Option (List X × List ℕ)
  behind front read = option_map (λ xs. (front ++ xs.0, xs.1)) read

  -- what was put there, and what is still to be read completes the whole
  pub record Restored (next : List X → Form X) (holds : List X → Type 0) (n : ℕ) (bytes : List ℕ)
      (whole : Option (List X × List ℕ)) : Type 0 where
    pub front : List X
    pub there : holds front
    pub goes_on : behind front (read_items next front n bytes) ≡ whole

  behind-nil : (read : Option (List X × List ℕ)) → behind [] read ≡ read
  behind-nil None = refl
  behind-nil (Some x) = refl

  behind-in_front : (front : List X) (x : X) (read : Option (List X × List ℕ))
      → behind (front ++ x ∷ []) read ≡ behind front (option_map (in_front x) read)
  behind-in_front front x None = refl
  behind-in_front front x (Some r) =
      ap (λ (ys : List X). Some (ys, r.1)) (append_assoc front (x ∷ []) r.0)

  pub restored_none : (next : List X → Form X) (holds : List X → Type 0) (n : ℕ) (bytes : List ℕ)
      → holds [] → Restored next holds (n - 0) bytes (read_items next [] n bytes)
  restored_none next holds n bytes h =
      let all : n - 0 ≡ n = omega arith in record {
        front = [];
        there = h;
        goes_on = rw all (behind-nil (read_items next [] n bytes));
      }

  pub restored_more : (next : List X → Form X) (old new : List X → Type 0) (n i : ℕ)
      (bytes rest : List ℕ) (whole : Option (List X × List ℕ)) → i < n
      → (h : Restored next old (n - i) bytes whole)
      → ((x : X) × new (h.front ++ x ∷ []) × ((next h.front).read bytes ≡ Some (x, rest)))
      → Restored next new (n - (i + 1)) rest whole
  unfolding read_items
  restored_more next old new n i bytes rest whole inside h taken =
      let one : n - i ≡ suc (n - (i + 1)) = omega arith in
      let x = taken.0 in
      let more = read_items next (h.front ++ x ∷ []) (n - (i + 1)) rest in
      let now : behind h.front (read_items next h.front (n - i) bytes)
      ≡ behind h.front (option_map (in_front x) more) = rw (one, taken.2) refl in
      record {
        front = h.front ++ x ∷ [];
        there = taken.1;
        goes_on = behind-in_front h.front x more ∙ sym now ∙ h.goes_on;
      }

  pub restored_short : (next : List X → Form X) (old : List X → Type 0) (n i : ℕ)
      (bytes : List ℕ) (whole : Option (List X × List ℕ)) → i < n
      → (h : Restored next old (n - i) bytes whole) → (f : SnapFault)
      → GivesNone ((next h.front).read bytes) f → GivesNone whole f
  unfolding read_items
  restored_short next old n i bytes whole inside h Bad e =
      let one : n - i ≡ suc (n - (i + 1)) = omega arith in
      let none : behind h.front (read_items next h.front (n - i) bytes) ≡ None = rw (one, e) refl in
      sym h.goes_on ∙ none
  restored_short next old n i bytes whole inside h Memory u = tt

  pub restored_all : (next : List X → Form X) (holds : List X → Type 0) (n i : ℕ)
      (bytes : List ℕ) (whole : Option (List X × List ℕ)) → n ≤ i
      → Restored next holds (n - i) bytes whole
      → (xs : List X) × holds xs × (whole ≡ Some (xs, bytes))
  unfolding read_items
  restored_all next holds n i bytes whole past h =
      let none : n - i ≡ 0 = omega arith in
      let last : behind h.front (read_items next h.front (n - i) bytes) ≡ Some (h.front, bytes) =
      rw none (ap (λ (ys : List X). Some (ys, bytes)) (append-nil h.front)) in
      (h.front, h.there, sym h.goes_on ∙ last)

  pub count_missing : (next : List X → Form X) (bytes : List ℕ) → read_item COUNT bytes ≡ None
      → read_list next bytes ≡ None
  unfolding read_list
  count_missing next bytes e = rw e refl

  -- a list: its count, and so many items behind it
  pub list_restored : (next : List X → Form X) (holds : List X → Type 0) (bytes ns middle rest : List ℕ)
      (r : Result Unit SnapFault) → read_item COUNT bytes ≡ Some (ns, middle)
      → (let read = read_items next [] (get_or ns 0 0) middle in
      MatchResult r (λ _. (xs : List X) × holds xs × (read ≡ Some (xs, rest))) (GivesNone read))
      → MatchResult r (λ _. (xs : List X) × holds xs × (read_list next bytes ≡ Some (xs, rest)))
      (GivesNone (read_list next bytes))
  unfolding read_list
  list_restored next holds bytes ns middle rest r count items = rw count items
