-- No line of a loading, nor of the end of a module, tells of a thread.
use Rattle.std.proofs.Common.{ℕ, Result, Ok, Err, List, [], ◌∷◌, length, replicate, refl}
use Rattle.std.specs.Prelude.{All}
use Rattle.std.proofs.lemmas.List.Elements.{All-nil, All-cons, All-append}
use Rattle.iop_base.specs.Keeping.{kept_of}
use Rattle.iop_base.specs.Piece.{Traced}
use Rattle.iop_base.specs.Text.{line_bytes}
use Rattle.iop_base.specs.declared.code.Code.{Code}
use Rattle.iop_base.specs.declared.line.Line.TheVariants as lines
use Rattle.iop_kernel_laws.proofs.Switching.{stores_run_none}
use Rattle.iop_kernel_laws.specs.SwitchLaws.{IsNoRun, line}
use Rattle.iop_modload.proofs.Lines.{loads_tell, finishes_tell}
use Rattle.iop_modload.specs.Finishing.{finishes}
use Rattle.iop_modload.specs.declared.loaded.Loaded.{Loaded}
use Rattle.iop_stubs.specs.Stubs.{range_place}
use Rattle.iop_machine.specs.Iop.{Iop, Transition}
use Rattle.iop_machine.specs.Loading.{loading_of, places, passes, enters_or, loads_first}
use Rattle.iop_machine.specs.Modules.{Module, argument_block}
use Rattle.iop_machine.specs.Storing.{stores_bytes, fills}
use Rattle.iop_machine.specs.declared.arguments.TheConstants.{ARGUMENTS, ARGUMENTS_LEN}
use Rattle.iop_saved_machine.specs.declared.begun_module.BegunModule.{BegunModule}

-- no line of a loading tells of a thread
loads_run_none : (s : Iop) (m : Module) → All IsNoRun (loading_of s m).pieces
loads_run_none s m =
    loads_tell s.kernel.clock s.memory s.blocks s.libraries IsNoRun
    (λ stub. line s.kernel.clock (lines.Stub stub.at) refl) m.file

-- nor of the end of a module
pub finishes_run_none : (s : Iop) (m : BegunModule) (value : ℕ)
    → All IsNoRun
    (finishes s.kernel.clock s.memory s.blocks s.libraries m.number m.place value).pieces
finishes_run_none s m value =
    finishes_tell s.kernel.clock s.memory s.blocks s.libraries IsNoRun
    (λ stub. line s.kernel.clock (lines.Stub stub.at) refl) m.number m.place value
    (line s.kernel.clock (lines.Returned m.number value (kept_of value)) refl)

-- nor of the argument block
bytes_run_none : (s : Iop) (at : ℕ) (bytes : List ℕ) → All IsNoRun (stores_bytes s at bytes).pieces
bytes_run_none s at bytes =
    stores_run_none s.kernel.clock s.memory (range_place s.memory at (length bytes)) (length bytes)

passes_run_none : (s : Iop) (block : List ℕ) → All IsNoRun (passes s block).pieces
passes_run_none s block =
    let filled = fills s ARGUMENTS ARGUMENTS_LEN in
    All-append IsNoRun filled.pieces (stores_bytes filled.state ARGUMENTS block).pieces
    (bytes_run_none s ARGUMENTS (replicate ARGUMENTS_LEN 0))
    (bytes_run_none filled.state ARGUMENTS block)

-- by what the loading of a module came to
enters_run_none : (next : Iop → Transition Iop)
    → ((v : Iop) → All IsNoRun (next v).pieces) → (s : Iop) (m : Module)
    (r : Result Loaded Code) → All IsNoRun (enters_or next s m r).pieces
enters_run_none next none s m (Ok loaded) =
    let told = lines.Load m.number loaded.place.base loaded.place.len in
    All-cons IsNoRun (Traced (line_bytes s.kernel.clock told))
    (passes s (argument_block m.words)).pieces (line s.kernel.clock told refl)
    (passes_run_none s (argument_block m.words))
enters_run_none next none s m (Err code) =
    let told = lines.Refused m.number code in
    All-cons IsNoRun (Traced (line_bytes s.kernel.clock told)) (next s).pieces
    (line s.kernel.clock told refl) (none s)

pub loads_first_run_none : (modules : List Module) (s : Iop)
    → All IsNoRun (loads_first modules s).pieces
unfolding loads_first
loads_first_run_none [] s = All-nil IsNoRun
loads_first_run_none (m ∷ rest) s =
    let loading = loading_of s m in
    let placed = (places s loading).state in
    All-append IsNoRun loading.pieces (enters_or (loads_first rest) placed m loading.answer).pieces
    (loads_run_none s m)
    (enters_run_none (loads_first rest) (loads_first_run_none rest) placed m loading.answer)
