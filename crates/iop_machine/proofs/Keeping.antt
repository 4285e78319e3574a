-- What stays of memory and its blocks, whatever is stored, loaded, finished or called.
use Rattle.std.proofs.Common.{◌≡◌, ◌⊎◌, inl, inr, ℕ, true, Option, Some, None, Result, Ok, Err, List, [], ◌∷◌, ◌++◌, length, replicate, Contains, refl, sym, ◌∙◌, arith, not, subst}
use Rattle.std.proofs.lemmas.List.Elements.{All-filter, All-contains, All-contains_itself, Contains-append_cases, Contains-append_left, Contains-append_right}
use Rattle.iop_base.specs.Numbers.{width_bytes, bytes_of}
use Rattle.iop_base.specs.Piece.{Piece}
use Rattle.iop_base.specs.Places.{phys}
use Rattle.iop_base.specs.declared.code.Code.{Code}
use Rattle.iop_base.specs.declared.line.Line.{Line}
use Rattle.iop_base.specs.declared.line.Line.TheVariants.{Load, Refused}
use Rattle.iop_exec.specs.Row.{Row, Goes, Serves, Faults, Storing}
use Rattle.iop_kernel.specs.Laws.{Store, after_stores, stores_lines, Writes, ServiceKeeps}
use Rattle.iop_kernel.specs.Serving.{services}
use Rattle.iop_kernel.specs.System.{System, Served, is_active}
use Rattle.iop_kernel.specs.declared.after.After.{After}
use Rattle.iop_kernel.specs.declared.after.After.TheVariants.{Resume, Switch, ModuleReturned, Fault}
use Rattle.iop_kernel_laws.proofs.Keeping.Services.{services_keep}
use Rattle.iop_modload.specs.Finishing.{finishes}
use Rattle.iop_modload.specs.Laws.{HasBlocks, IsLiveOrTold, Keeps as LoadingKeeps}
use Rattle.iop_modload.specs.declared.loaded.Loaded.{Loaded}
use Rattle.iop_modload.proofs.LoadingLemmas.{loading_keeps}
use Rattle.iop_modload.proofs.FinishingLemmas.{finishing_keeps}
use Rattle.iop_stubs.specs.Stubs.{access_place, Memory, after_store, meets, stub_line, store_lines}
use Rattle.iop_stubs.specs.declared.live_stub.Stub.{Stub}
use Rattle.iop_stubs.proofs.Storing.{store_sound}
use Rattle.iop_sysmem.specs.BlockMap.{BlockMap}
use Rattle.iop_machine.specs.Iop.{Iop, Transition, tells}
use Rattle.iop_machine.specs.Loading.{loading_of, places, passes, enters_or, loads_first, starts_by}
use Rattle.iop_machine.specs.Modules.{Module, argument_block, modules_of}
use Rattle.iop_machine.specs.Services.{calls, calls_by, serves, calling, leaves, returns_by, ends_module, goes_on_by}
use Rattle.iop_machine.specs.Stepping.{performs, stores_it, waits_by}
use Rattle.iop_machine.specs.Storing.{stores_bytes, fills}
use Rattle.iop_machine.specs.declared.arguments.TheConstants.{ARGUMENTS, ARGUMENTS_LEN}
use Rattle.iop_saved_machine.specs.declared.begun_module.BegunModule.{BegunModule}
use Rattle.iop_machine.proofs.Elements.{fails_or_passes}
use Rattle.iop_machine.proofs.Storing.{LiesInside, LieInside, range_by, number_inside, first_inside, others_inside, length-after_store}

-- what stays of memory at a moment, which has these blocks then, where these pieces were given and
-- these stubs bound
pub record Stays (clock : ℕ) (old new : Memory) (blocks : BlockMap) (pieces : List Piece)
    (bound : List Stub) : Type 0 where
  pub whole : HasBlocks new blocks
  -- memory is as long as it was
  pub size : length new.ram ≡ length old.ram
  -- no stub is live but those that were, and those that were bound
  pub live : (stub : Stub) → Contains new.live stub → Contains old.live stub ⊎ Contains bound stub
  -- each of these is live, or has its line
  pub line : (stub : Stub) → Contains old.live stub ⊎ Contains bound stub
      → Contains new.live stub ⊎ Contains pieces (stub_line clock stub)

-- over a transition of the core
abbrev pub Keeps : Iop → Transition Iop → Type 0
Keeps s t = Stays s.kernel.clock s.memory t.state.memory t.state.blocks t.pieces t.bound

-- one that was live, where none was bound
only_old : (live : List Stub) (stub : Stub) → Contains live stub ⊎ Contains [] stub
    → Contains live stub
only_old live stub (inl old) = old
only_old live stub (inr none) = absurd (omega (arith, none.1))

pub same : (clock : ℕ) (memory : Memory) (blocks : BlockMap) (pieces : List Piece)
    → HasBlocks memory blocks → Stays clock memory memory blocks pieces []
same clock memory blocks pieces h =
    record {
      whole = h;
      size = refl;
      live = λ stub x. inl x;
      line = λ stub x. inl (only_old memory.live stub x);
    }

-- a store
stays_store : (clock : ℕ) (old : Memory) (blocks : BlockMap) (place : Option ℕ) (bytes : List ℕ)
    → LiesInside old place bytes → HasBlocks old blocks
    → Stays clock old (after_store old place bytes) blocks
    (store_lines clock old place (length bytes)) []
stays_store clock old blocks None bytes inside h = same clock old blocks [] h
stays_store clock old blocks (Some p) bytes inside h =
    let test = meets p (length bytes) in
    record {
      whole = record {
        sound = store_sound old _ _ p (length bytes) bytes refl refl refl (inside p refl) h.sound;
        are_blocks = h.are_blocks;
        same_size = h.same_size ∙ sym (length-after_store old (Some p) bytes inside);
      };
      size = length-after_store old (Some p) bytes inside;
      live = λ stub x. inl (All-contains (Contains old.live) _ stub
          (All-filter (λ y. not (test y)) (Contains old.live) old.live
          (All-contains_itself old.live)) x);
      line = λ stub x. fails_or_passes test (stub_line clock) old.live stub
          (only_old old.live stub x);
    }

-- bytes that the kernel stores at an address
stays_stores : (s : Iop) (at : ℕ) (bytes : List ℕ) → HasBlocks s.memory s.blocks
    → Keeps s (stores_bytes s at bytes)
stays_stores s at bytes =
    let size = length s.memory.ram in
    stays_store s.kernel.clock s.memory s.blocks _ bytes
    (λ p e. range_by (phys size at) size at (length bytes) p refl e)

-- the number that an instruction stores
stays_number : (s : Iop) (storing : Storing) → HasBlocks s.memory s.blocks
    → Keeps s (stores_it s (Some storing))
stays_number s storing =
    stays_store s.kernel.clock s.memory s.blocks (access_place s.memory storing.at storing.width)
    (bytes_of (width_bytes storing.width) storing.value) (number_inside s.memory storing)

-- one change of memory and then another
module _ {clock : ℕ} {a b c : Memory} {between blocks : BlockMap} {first second : List Piece}
    {new newer : List Stub} (g : Stays clock a b between first new)
    (h : Stays clock b c blocks second newer) where
  -- each stub that is live was so before both, or was bound
  live_then : (stub : Stub) → Contains c.live stub
      → Contains a.live stub ⊎ Contains (new ++ newer) stub
  live_then stub x = elim (h.live stub x) [
    | inl there ↦ elim (g.live stub there) [
      | inl old ↦ inl old
      | inr one ↦ inr (Contains-append_left new newer stub one)
    ]
    | inr one ↦ inr (Contains-append_right new newer stub one)
  ]

  -- from the state between
  line_from : (stub : Stub) → Contains b.live stub ⊎ Contains newer stub
      → Contains c.live stub ⊎ Contains (first ++ second) (stub_line clock stub)
  line_from stub x = elim (h.line stub x) [
    | inl all ↦ inl all
    | inr told ↦ inr (Contains-append_right first second _ told)
  ]

  -- from the state before both
  line_old : (stub : Stub) → Contains a.live stub ⊎ Contains new stub
      → Contains c.live stub ⊎ Contains (first ++ second) (stub_line clock stub)
  line_old stub x = elim (g.line stub x) [
    | inl there ↦ line_from stub (inl there)
    | inr told ↦ inr (Contains-append_left first second _ told)
  ]

  -- each stub that was live or was bound is live, or its line was given
  line_then : (stub : Stub) → Contains a.live stub ⊎ Contains (new ++ newer) stub
      → Contains c.live stub ⊎ Contains (first ++ second) (stub_line clock stub)
  line_then stub (inl old) = line_old stub (inl old)
  line_then stub (inr bound) = elim (Contains-append_cases new newer stub bound) [
    | inl one ↦ line_old stub (inr one)
    | inr one ↦ line_from stub (inr one)
  ]

  -- both keep it
  stays_then : Stays clock a c blocks (first ++ second) (new ++ newer)
  stays_then =
      record { whole = h.whole; size = h.size ∙ g.size; live = live_then; line = line_then }

-- a loading or a finishing
stays_as : {clock : ℕ} {old new : Memory} {blocks : BlockMap} {bound : List Stub}
    {pieces : List Piece} → LoadingKeeps clock old new blocks bound pieces
    → Stays clock old new blocks pieces bound
stays_as {clock} {old} {new} {blocks} {bound} {pieces} h = record {
  whole = h.whole;
  size = h.size;
  live = λ stub x.
      All-contains (λ y. Contains old.live y ⊎ Contains bound y) new.live stub h.others x;
  line = λ stub x. elim x [
    | inl there ↦ All-contains (IsLiveOrTold clock new pieces) old.live stub h.were_live there
    | inr one ↦ All-contains (IsLiveOrTold clock new pieces) bound stub h.were_bound one
  ];
}

passes_keeps : (s : Iop) (block : List ℕ) → HasBlocks s.memory s.blocks → Keeps s (passes s block)
passes_keeps s block h =
    let filled = stays_stores s ARGUMENTS (replicate ARGUMENTS_LEN 0) h in
    stays_then filled
    (stays_stores (fills s ARGUMENTS ARGUMENTS_LEN).state ARGUMENTS block filled.whole)

-- a line, and then a transition
told : (s : Iop) (line : Line) (t : Transition Iop) → HasBlocks s.memory s.blocks → Keeps s t
    → Stays s.kernel.clock s.memory t.state.memory t.state.blocks
    ((tells s line).pieces ++ t.pieces) t.bound
told s line t h keeps =
    stays_then (same s.kernel.clock s.memory s.blocks (tells s line).pieces h) keeps

-- by what the loading came to, where the next one keeps it
enters_keeps : (next : Iop → Transition Iop)
    → ((v : Iop) → HasBlocks v.memory v.blocks → Keeps v (next v)) → (s : Iop) (m : Module)
    (r : Result Loaded Code) → HasBlocks s.memory s.blocks → Keeps s (enters_or next s m r)
enters_keeps next keeps s m (Ok loaded) h =
    let block = argument_block m.words in
    told s (Load m.number loaded.place.base loaded.place.len) (passes s block) h (passes_keeps s block h)
enters_keeps next keeps s m (Err code) h = told s (Refused m.number code) (next s) h (keeps s h)

pub loads_first_keeps : (modules : List Module) (s : Iop) → HasBlocks s.memory s.blocks
    → Keeps s (loads_first modules s)
unfolding loads_first
loads_first_keeps [] s h = same s.kernel.clock s.memory s.blocks [] h
loads_first_keeps (m ∷ rest) s h =
    let loading = loading_of s m in
    let placed : Keeps s (places s loading) =
    stays_as (loading_keeps s.kernel.clock s.memory s.blocks s.libraries h m.file) in
    stays_then placed (enters_keeps (loads_first rest) (loads_first_keeps rest)
    (places s loading).state m loading.answer placed.whole)

-- whether the loader's thread goes on or ends, and whether it begins, memory and its blocks stay
goes_on_keeps : {clock : ℕ} {old : Memory} {pieces : List Piece} {bound : List Stub} (s : Iop)
    (o : Option BegunModule) → Stays clock old s.memory s.blocks pieces bound
    → Stays clock old (goes_on_by s o).memory (goes_on_by s o).blocks pieces bound
goes_on_keeps s None h = h
goes_on_keeps s (Some begun) h = h

pub starts_keep : {clock : ℕ} {old : Memory} {pieces : List Piece} {bound : List Stub} (s : Iop)
    (o : Option BegunModule) → Stays clock old s.memory s.blocks pieces bound
    → Stays clock old (starts_by s o).memory (starts_by s o).blocks pieces bound
starts_keep s None h = h
starts_keep s (Some begun) h = h

-- the loader's thread returned, by whether a module had begun
returns_keep : (s : Iop) (o : Option BegunModule) (value : ℕ) → HasBlocks s.memory s.blocks
    → Keeps s (returns_by s o value)
unfolding ends_module
returns_keep s None value h = same s.kernel.clock s.memory s.blocks [] h
returns_keep s (Some m) value h =
    let left = (leaves s
    (finishes s.kernel.clock s.memory s.blocks s.libraries m.number m.place value)).state in
    let now = (loads_first (modules_of s.modules) left).state in
    let ended = stays_as (finishing_keeps s.kernel.clock s.memory s.blocks s.libraries h m.number
    m.place value) in
    goes_on_keeps now now.begun
    (stays_then ended (loads_first_keeps (modules_of s.modules) left ended.whole))

-- several stores, one after the other
stays_stored : (clock : ℕ) (old : Memory) (blocks : BlockMap) (stores : List Store)
    → LieInside old stores → HasBlocks old blocks
    → Stays clock old (after_stores old stores) blocks (stores_lines clock old stores) []
stays_stored clock old blocks [] inside h = same clock old blocks [] h
stays_stored clock old blocks (x ∷ xs) inside h =
    let first = stays_store clock old blocks (Some x.place) x.bytes
    (first_inside old x xs inside) h in
    stays_then first (stays_stored clock (after_store old (Some x.place) x.bytes) blocks xs
    (others_inside old x xs inside) first.whole)

-- what a service stores, of which it tells each live stub that it meets
stays_written : (s : System) (memory : Memory) (blocks : BlockMap) (pieces : List Piece)
    → Writes s memory pieces → HasBlocks s.memory blocks
    → Stays s.core.kernel.clock s.memory memory blocks pieces []
stays_written s memory blocks pieces writes h =
    let clock = s.core.kernel.clock in
    let stored = stays_stored clock s.memory blocks writes.stores writes.inside h in
    subst (λ (m : Memory). Stays clock s.memory m blocks pieces []) (sym writes.left) (record {
      whole = stored.whole;
      size = stored.size;
      live = stored.live;
      line = λ stub x. elim (stored.line stub x) [
        | inl there ↦ inl there
        | inr line ↦ inr (writes.told (stub_line clock stub) line)
      ];
    })

-- a service
serves_keep : (s : System) (d : Served) → ServiceKeeps s d → HasBlocks s.memory s.blocks
    → Stays s.core.kernel.clock s.memory d.left.state.memory d.left.state.blocks d.pieces []
serves_keep s d kept h =
    stays_written s d.left.state.memory d.left.state.blocks d.pieces kept.memory (record {
      sound = h.sound;
      are_blocks = kept.blocks.are_blocks h.are_blocks;
      same_size = kept.blocks.size ∙ h.same_size;
    })

-- by what becomes of the caller
calls_by_keep : (s : Iop) (d : Served) → Keeps s (serves s d)
    → d.left.state.core.kernel.clock ≡ s.kernel.clock → HasBlocks s.memory s.blocks
    → (after : After) → Keeps s (calls_by s d after)
calls_by_keep s d served clock h Resume = served
calls_by_keep s d served clock h Switch = served
calls_by_keep s d served clock h (ModuleReturned value) =
    let now = (serves s d).state in
    let t = returns_by now now.begun value in
    stays_then served
    (subst (λ k. Stays k now.memory t.state.memory t.state.blocks t.pieces t.bound) clock
    (returns_keep now now.begun value served.whole))
calls_by_keep s d served clock h (Fault kind) = same s.kernel.clock s.memory s.blocks [] h

-- an instruction of what executes
pub performs_keeps : (s : Iop) (r : Row) → is_active s.kernel ≡ true → HasBlocks s.memory s.blocks
    → Keeps s (performs s r)
unfolding calls
performs_keeps s (Goes after None) active h = same s.kernel.clock s.memory s.blocks [] h
performs_keeps s (Goes after (Some storing)) active h =
    stays_number (record s { cpu = after }) storing h
performs_keeps s (Serves code) active h =
    let kept = services_keep (calling s) code active in
    let d = services (calling s) code in
    calls_by_keep s d (serves_keep (calling s) d kept h) kept.clock h d.left.after
performs_keeps s (Faults kind) active h = same s.kernel.clock s.memory s.blocks [] h

-- the clock goes on
pub waits_keep : (s : Iop) (o : Option ℕ) → HasBlocks s.memory s.blocks → Keeps s (waits_by s o)
waits_keep s None h = same s.kernel.clock s.memory s.blocks [] h
waits_keep s (Some moment) h = same s.kernel.clock s.memory s.blocks [] h
