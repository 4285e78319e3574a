-- The services that ask for a thread that calls them: a handler calls none of them.
use Rattle.std.proofs.Common.{◌≡◌, ℕ, ◌||◌, not, Bool, true, false, Option, Some, None, refl, arith}
use Rattle.std.specs.Prelude.{is_some}
use Rattle.std.proofs.lemmas.Bool.Decides.{nat_tests}
use Rattle.iop_services.specs.Table.{row_of, allows}
use Rattle.iop_services.specs.declared.row.Row.{Row}
use Rattle.iop_services.specs.declared.service.Service.{Service}
use Rattle.iop_services.specs.declared.service.Service.TheVariants.{Thbase, Thsemap, Thevent, Thmsgbx, Thvpool, Thfpool}
use Rattle.iop_services.specs.declared.thbase_service.ThbaseService.TheVariants.{ExitThread, ExitDeleteThread, DisableDispatchThread, SleepThread, DelayThread}
use Rattle.iop_services.specs.declared.thevent_service.TheventService.TheVariants.{WaitEventFlag}
use Rattle.iop_services.specs.declared.thfpool_service.ThfpoolService.TheVariants.{AllocateFpl}
use Rattle.iop_services.specs.declared.thmsgbx_service.ThmsgbxService.TheVariants.{ReceiveMbx}
use Rattle.iop_services.specs.declared.thsemap_service.ThsemapService.TheVariants.{WaitSema}
use Rattle.iop_services.specs.declared.thvpool_service.ThvpoolService.TheVariants.{AllocateVpl}
use Rattle.iop_services.proofs.Rows.{AllPass, rows_all}
use Rattle.iop_kernel.specs.System.{Core, caller_beside, caller, in_handler, is_active}
use Rattle.iop_kernel.specs.declared.active_handler.ActiveHandler.{ActiveHandler}

-- whether a service asks for a thread that calls it
unfoldable pub asks_for_thread : Service → Bool
asks_for_thread (Thbase ExitThread) = true
asks_for_thread (Thbase ExitDeleteThread) = true
asks_for_thread (Thbase DisableDispatchThread) = true
asks_for_thread (Thbase SleepThread) = true
asks_for_thread (Thbase DelayThread) = true
asks_for_thread (Thsemap WaitSema) = true
asks_for_thread (Thevent WaitEventFlag) = true
asks_for_thread (Thmsgbx ReceiveMbx) = true
asks_for_thread (Thvpool AllocateVpl) = true
asks_for_thread (Thfpool AllocateFpl) = true
asks_for_thread other = false

-- whether a row that a handler may call is of another service
abbrev suits : (library : ℕ) → Row → Bool
suits library row = not (asks_for_thread row.service) || not (allows row.context true)

-- all rows are so
all_suit : AllPass suits
unfolding asks_for_thread
all_suit = record {
  loadcore = refl;
  sysmem = refl;
  intrman = refl;
  thbase = refl;
  thsemap = refl;
  thevent = refl;
  thmsgbx = refl;
  stdio = refl;
  thvpool = refl;
  thfpool = refl;
  sysclib = refl;
}

-- by the handler that runs, and the thread
suited_by : (library : ℕ) (row : Row) (o : Option ActiveHandler) (running : Option ℕ)
    → (is_some o || is_some running) ≡ true → suits library row ≡ true
    → allows row.context (is_some o) ≡ true → asks_for_thread row.service ≡ true
    → is_some (caller_beside o running) ≡ true
suited_by library row None running active suit allowed asks = active
suited_by library row (Some handler) running active suit allowed asks =
    absurd (grind (arith, nat_tests, suit, allowed, asks))

-- where a row that is called is of such a service, a thread calls
pub has_caller : (c : Core) → is_active c.kernel ≡ true → (library number : ℕ) (row : Row)
    → row_of library number ≡ Some row → allows row.context (in_handler c.kernel) ≡ true
    → asks_for_thread row.service ≡ true → is_some (caller c) ≡ true
has_caller c active library number row found =
    suited_by library row c.kernel.handler c.kernel.threads.running active
    (rows_all suits all_suit library number row found)
