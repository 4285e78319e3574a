-- Ready threads are read in a lawful way, and put back one after the other.
use Rattle.std.proofs.Common.{◌≡◌, ℕ, ◌+◌, ◌<◌, Bool, true, false, if◌then◌else◌, Option, None, List, ◌∷◌, length, drop, get_or, refl, ap, sym, ◌∙◌}
use Rattle.std.specs.Prelude.{nat_lt}
use Rattle.std.proofs.lemmas.List.{at_drop_more}
use Rattle.std.proofs.lemmas.Option.{same_Some}
use Rattle.iop_ready.specs.declared.slot.TheConstants.{MOST_THREADS}
use Rattle.iop_snapshot.proofs.Combining.{item_lawful, seen_lawful, tested_lawful}
use Rattle.iop_snapshot.proofs.Numbers.{numbers_from-all, fits_long}
use Rattle.iop_snapshot.specs.Forms.{IsLawful, IsSeries, item}
use Rattle.iop_snapshot.specs.Putting.{put_all}
use Rattle.iop_snapshot.specs.declared.widths.TheConstants.{THREAD_ID}
use Rattle.iop_thread.specs.Restoring.{may_be_listed, with_last_ready}
use Rattle.iop_thread.specs.ThreadTable.{ThreadTable}
use Rattle.iop_saved_threads.specs.Tables.{id_of, id_numbers, id_form, next_ready, put_ready}

id_lawful : IsLawful id_form
unfolding id_form item
id_lawful =
    seen_lawful (item THREAD_ID) id_of id_numbers (item_lawful THREAD_ID) (λ id fits. refl)
    (λ ns id fits e. ap id_numbers (sym (same_Some _ id e))
    ∙ numbers_from-all 0 1 ns (fits_long THREAD_ID ns fits))

pub ready_series : IsSeries id_form next_ready
ready_series = record {
  lawful = λ before.
      tested_lawful id_form (λ id. nat_lt (length before) MOST_THREADS) id_lawful;
  same = λ before id. refl;
}

-- by whether the first of them may be put
put_by : (t : ThreadTable) (id : ℕ) (rest : List ℕ) (may : Bool) → may_be_listed t id ≡ may
    → put_all put_ready t (id ∷ rest)
    ≡ (if may then put_all put_ready (with_last_ready t id) rest else None)
put_by t id rest true is = rw is refl
put_by t id rest false is = rw is refl

-- by whether the next of them may be put, where those before it were
pub put_next : (s t : ThreadTable) (ids : List ℕ) (k : ℕ) (may : Bool)
    → put_all put_ready s ids ≡ put_all put_ready t (drop k ids) → k < length ids
    → may ≡ may_be_listed t (get_or ids k 0)
    → put_all put_ready s ids
    ≡ (if may then put_all put_ready (with_last_ready t (get_or ids k 0)) (drop (k + 1) ids)
    else None)
put_next s t ids k may before lt is =
    before ∙ at_drop_more (put_all put_ready t) ids k 0 lt
    ∙ put_by t (get_or ids k 0) (drop (k + 1) ids) may (sym is)
