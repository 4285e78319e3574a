-- What was put back one after the other stands behind that which stood there.
use Rattle.std.proofs.Common.{◌≡◌, ℕ, ◌<◌, Bool, true, false, cond, eqb, if◌then◌else◌, Option, Some, None, List, [], ◌∷◌, ◌++◌, length, append-nil, append_assoc, refl, sym, ap, subst, ◌∙◌, arith}
use Rattle.std.specs.Prelude.{option_and_then}
use Rattle.std.proofs.lemmas.Bool.{and_parts, eqb-true}
use Rattle.std.proofs.lemmas.Option.{same_Some, cond_some}
use Rattle.iop_registry.specs.Restoring as registry
use Rattle.iop_stubs.specs.Restoring.{stub_may_follow, with_last_stub}
use Rattle.iop_stubs.specs.declared.live_stub.Stub.{Stub}
use Rattle.iop_sysmem.specs.BlockMap.{BlockMap, block_at}
use Rattle.iop_sysmem.specs.Restoring as blocks
use Rattle.iop_sysmem.specs.declared.block.Block.{Block}
use Rattle.iop_sysmem.specs.declared.blocks.TheConstants.{KERNEL}
use Rattle.iop_time.specs.Restoring.{alarm_may_follow, delay_may_follow, with_last_alarm, with_last_delay}
use Rattle.iop_time.specs.Timers.{Timers}
use Rattle.iop_time.specs.declared.alarm.Alarm.{Alarm}
use Rattle.iop_time.specs.declared.delay.Delay.{Delay}
use Rattle.iop_snapshot.specs.Putting.{put_all}
use Rattle.iop_snapshot.proofs.Combining.{then_some}
use Rattle.iop_saved_tables.specs.Laws.{AlarmsStandBehind, DelaysStandBehind, TablesTellWhatWasPut}
use Rattle.iop_saved_tables.specs.Tables.{Opened, is_kernels, put_block, put_used, unopened}
use Rattle.iop_saved_tables.proofs.Opening.{came, comes_behind}

-- where a value that is put last stands behind the others, so do all that are put one by one
module _ {T X : Type 0} (may : T → X → Bool) (with_last : T → X → T)
    (Behind : T → List X → T → Type 0) (none : (old : T) → Behind old [] old)
    (more : (old new : T) (x : X) (xs : List X) → Behind (with_last old x) xs new
    → Behind old (x ∷ xs) new) where
  abbrev put_if : T → X → Option T
  put_if table x = if may table x then Some (with_last table x) else None

  all_behind : (old new : T) (xs : List X) → put_all put_if old xs ≡ Some new → Behind old xs new
  all_behind old new [] is = subst (Behind old []) (same_Some old new is) (none old)
  all_behind old new (x ∷ xs) is =
      let one = then_some (put_if old x) (λ left. put_all put_if left xs) new is in
      let put = cond_some (may old x) (with_last old x) one.0 one.1 in
      let rest = subst (λ (left : T). put_all put_if left xs ≡ Some new) (sym put.1) one.2 in
      more old new x xs (all_behind (with_last old x) new xs rest)

-- blocks stand behind those that a map has
blocks_behind : (old new : BlockMap) (xs : List Block) → put_all put_block old xs ≡ Some new
    → new ≡ record old { used = old.used ++ xs }
blocks_behind =
    all_behind blocks.may_follow blocks.with_last
    (λ old put new. new ≡ record old { used = old.used ++ put })
    (λ old. ap (λ (l : List Block). record old { used = l }) (sym (append-nil old.used)))
    (λ old new x xs behind.
    behind ∙ ap (λ (l : List Block). record old { used = l }) (append_assoc old.used (x ∷ []) xs))

-- the block that is the kernel's is that block
kernels_is : (block : Block) → is_kernels block ≡ true → block ≡ KERNEL
kernels_is block is =
    let parts = and_parts (eqb block.start KERNEL.start) (eqb block.size KERNEL.size) is in
    ap (λ start. block_at start block.size) (eqb-true block.start KERNEL.start parts.0)
    ∙ ap (block_at KERNEL.start) (eqb-true block.size KERNEL.size parts.1)

-- the map of the kernel's block alone
abbrev alone : ℕ → BlockMap
alone size = record { size = size; used = KERNEL ∷ [] }

-- where the kernel's block came first, that map has all that came
used_is : (size : ℕ) (used : List Block) (opened : Opened)
    → put_all put_used (unopened (alone size)) used ≡ Some opened
    → 0 < length used → opened.map ≡ record { size = size; used = used }
used_is size [] opened is some = absurd (omega (arith, some))
used_is size (x ∷ xs) opened is some = by (is_kernels x) refl is
  where
    by : (b : Bool) → is_kernels x ≡ b
        → option_and_then (λ l. put_all put_used l xs) (cond b (Some (came (alone size))) None)
        ≡ Some opened
        → opened.map ≡ record { size = size; used = x ∷ xs }
    by true first is =
        let (now, put, is_now) = comes_behind (alone size) opened xs is in
        ap (λ (o : Opened). o.map) is_now
        ∙ blocks_behind (alone size) now xs put
        ∙ ap (λ (b : Block). record { size = size; used = b ∷ xs }) (sym (kernels_is x first))
    by false first is = absurd cc

-- the law
pub tables_tell : TablesTellWhatWasPut
tables_tell = record {
  alarms = all_behind
      (λ (timers : Timers) (alarm : Alarm). alarm_may_follow timers.alarms timers.delays alarm)
      with_last_alarm (λ old put new. AlarmsStandBehind old put new)
      (λ old. record { alarms = sym (append-nil old.alarms); delays = refl })
      (λ old new alarm rest behind. record {
        alarms = behind.alarms ∙ append_assoc old.alarms (alarm ∷ []) rest;
        delays = behind.delays;
      });
  delays = all_behind
      (λ (timers : Timers) (delay : Delay). delay_may_follow timers.alarms timers.delays delay)
      with_last_delay (λ old put new. DelaysStandBehind old put new)
      (λ old. record { delays = sym (append-nil old.delays); alarms = refl })
      (λ old new delay rest behind. record {
        delays = behind.delays ∙ append_assoc old.delays (delay ∷ []) rest;
        alarms = behind.alarms;
      });
  blocks = used_is;
  libraries = all_behind registry.may_follow registry.with_last (λ old put new. new ≡ old ++ put)
      (λ old. sym (append-nil old))
      (λ old new x xs behind. behind ∙ append_assoc old (x ∷ []) xs);
  stubs = all_behind stub_may_follow with_last_stub
      (λ old put new. new ≡ record old { live = old.live ++ put })
      (λ old. ap (λ (l : List Stub). record old { live = l }) (sym (append-nil old.live)))
      (λ old new x xs behind.
      behind ∙ ap (λ (l : List Stub). record old { live = l }) (append_assoc old.live (x ∷ []) xs));
}
