-- The forms of records, and of the lists of them that a table takes, are lawful.
use Rattle.std.proofs.Common.{◌≡◌, ℕ, ◌+◌, ◌-◌, ◌≤◌, Some, List, [], ◌∷◌, ◌++◌, length, get_or, take, refl, sym, ap, ◌∙◌, arith}
use Rattle.std.specs.Prelude.{nat_lt}
use Rattle.std.proofs.lemmas.Option.{same_Some}
use Rattle.std.proofs.lemmas.List.{take_at, get_or-append_right, length-append, take-append-drop}
use Rattle.iop_registry.specs.declared.registry.Entry.{Entry}
use Rattle.iop_stubs.specs.declared.live_stub.Stub.{Stub}
use Rattle.iop_stubs.specs.declared.live_stub.TheConstants.Stub.{MOST_LIVE}
use Rattle.iop_snapshot.specs.Forms.{IsLawful, IsSeries, item, series}
use Rattle.iop_snapshot.specs.Putting.{next_form}
use Rattle.iop_snapshot.specs.declared.widths.TheConstants.{ALARM, DELAY, USED_RANGE, LIBRARY, STUB}
use Rattle.iop_snapshot.proofs.Combining.{item_lawful, seen_lawful, tested_lawful}
use Rattle.iop_snapshot.proofs.Listing.{series_lawful}
use Rattle.iop_snapshot.proofs.Numbers.{numbers_from-all, fits_long}
use Rattle.iop_snapshot.proofs.Putting.{next_series}
use Rattle.iop_saved_tables.specs.Laws.{FormsAreLawful}
use Rattle.iop_saved_tables.specs.Records.{alarm_numbers, alarm_of, alarm_form, delay_numbers, delay_of, delay_form, block_numbers, block_of, block_form, library_numbers, library_of, library_form, stub_numbers, stub_of, stub_form, next_stub}
use Rattle.iop_saved_tables.specs.Tables.{put_alarm, put_delay, put_library, put_used, unopened}
use Rattle.iop_saved_tables.proofs.LineLaws.{lines_lawful}

pub alarm_lawful : IsLawful alarm_form
unfolding alarm_form item
alarm_lawful =
    seen_lawful (item ALARM) alarm_of alarm_numbers (item_lawful ALARM) (λ a fits. refl)
    (λ ns a fits e. ap alarm_numbers (sym (same_Some _ a e))
    ∙ numbers_from-all 0 5 ns (fits_long ALARM ns fits))

pub delay_lawful : IsLawful delay_form
unfolding delay_form item
delay_lawful =
    seen_lawful (item DELAY) delay_of delay_numbers (item_lawful DELAY) (λ d fits. refl)
    (λ ns d fits e. ap delay_numbers (sym (same_Some _ d e))
    ∙ numbers_from-all 0 3 ns (fits_long DELAY ns fits))

block_lawful : IsLawful block_form
unfolding block_form item
block_lawful =
    seen_lawful (item USED_RANGE) block_of block_numbers (item_lawful USED_RANGE)
    (λ b fits. refl)
    (λ ns b fits e. ap block_numbers (sym (same_Some _ b e))
    ∙ numbers_from-all 0 2 ns (fits_long USED_RANGE ns fits))

-- numbers behind a name
module _ (name rest : List ℕ) (eight : length name ≡ 8) where
  behind : (k : ℕ) → get_or (name ++ rest) (8 + k) 0 ≡ get_or rest k 0
  behind k =
      let inside : 8 ≤ 8 + k = omega arith in
      let left : 8 + k - 8 ≡ k = omega arith in
      get_or-append_right name rest 8 (8 + k) 0 eight inside ∙ ap (λ n. get_or rest n 0) left

  front : take 8 (name ++ rest) ≡ name
  front = take_at name rest 8 eight

library_again : (e : Entry) → length e.name ≡ 8 → library_of (library_numbers e) ≡ Some e
library_again e eight =
    let rest = e.major ∷ e.table ∷ [] in
    ap Some (rw (front e.name rest eight, behind e.name rest eight 0, behind e.name rest eight 1)
    refl)

library_back : (ns : List ℕ) (e : Entry) → length ns ≡ 10 → library_of ns ≡ Some e
    → library_numbers e ≡ ns
library_back ns e long is =
    ap library_numbers (sym (same_Some _ e is))
    ∙ ap (λ (l : List ℕ). take 8 ns ++ l) (numbers_from-all 8 2 ns long)
    ∙ take-append-drop 8 ns

library_lawful : IsLawful library_form
unfolding library_form item
library_lawful =
    seen_lawful (item LIBRARY) library_of library_numbers (item_lawful LIBRARY)
    (λ e fits. library_again e
    (omega (
      arith,
      fits_long LIBRARY (library_numbers e) fits,
      length-append e.name (e.major ∷ e.table ∷ []),
    )))
    (λ ns e fits is. library_back ns e (fits_long LIBRARY ns fits) is)

stub_again : (s : Stub) → length s.name ≡ 8 → stub_of (stub_numbers s) ≡ Some s
stub_again s eight =
    let rest = s.major ∷ s.index ∷ s.target ∷ [] in
    ap Some (rw (
      front s.name rest eight,
      behind s.name rest eight 0,
      behind s.name rest eight 1,
      behind s.name rest eight 2,
    ) refl)

stub_back : (ns : List ℕ) (s : Stub) → length ns ≡ 12 → stub_of ns ≡ Some s
    → stub_numbers s ≡ ns
stub_back [] s long is = absurd (omega arith)
stub_back (at ∷ ns) s long is =
    ap stub_numbers (sym (same_Some _ s is))
    ∙ ap (λ (l : List ℕ). at ∷ l)
    (ap (λ (l : List ℕ). take 8 ns ++ l) (numbers_from-all 8 3 ns (omega (arith, long)))
    ∙ take-append-drop 8 ns)

stub_lawful : IsLawful stub_form
unfolding stub_form item
stub_lawful =
    seen_lawful (item STUB) stub_of stub_numbers (item_lawful STUB)
    (λ s fits. stub_again s
    (omega (
      arith,
      fits_long STUB (stub_numbers s) fits,
      length-append s.name (s.major ∷ s.index ∷ s.target ∷ []),
    )))
    (λ ns s fits is. stub_back ns s (fits_long STUB ns fits) is)

stub_series : IsSeries stub_form next_stub
stub_series = record {
  lawful = λ before. tested_lawful stub_form (λ s. nat_lt (length before) MOST_LIVE) stub_lawful;
  same = λ before s. refl;
}

pub forms_lawful : FormsAreLawful
forms_lawful = record {
  alarms = λ timers.
      series_lawful alarm_form (next_form put_alarm alarm_form timers)
      (next_series put_alarm alarm_form alarm_lawful timers);
  delays = λ timers.
      series_lawful delay_form (next_form put_delay delay_form timers)
      (next_series put_delay delay_form delay_lawful timers);
  lines = lines_lawful;
  blocks = λ map.
      tested_lawful (series block_form (next_form put_used block_form (unopened map)))
      (λ used. nat_lt 0 (length used))
      (series_lawful block_form (next_form put_used block_form (unopened map))
      (next_series put_used block_form block_lawful (unopened map)));
  libraries = λ libraries.
      series_lawful library_form (next_form put_library library_form libraries)
      (next_series put_library library_form library_lawful libraries);
  stubs = series_lawful stub_form next_stub stub_series;
}
