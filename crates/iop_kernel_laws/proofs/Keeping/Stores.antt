-- What each service stores in memory, and what it keeps of the blocks of memory.
use Rattle.std.proofs.Common.{◌≡◌, ℕ, ◌+◌, ◌≤◌, List, [], ◌++◌, length, inl, inr, refl, ap, sym, subst, arith}
use Rattle.std.specs.Prelude.{⊤, Some, Contains}
use Rattle.std.proofs.lemmas.List.Elements.{Contains-append_left, Contains-append_right, Contains-append_cases}
use Rattle.iop_base.specs.Piece.{Piece}
use Rattle.iop_stubs.specs.Stubs.{after_store, store_lines}
use Rattle.iop_kernel.specs.Laws.{AreKept, Writes}
use Rattle.iop_kernel.specs.Serving.{services}
use Rattle.iop_kernel.specs.System.{Kernel, System, stores, storing_lines}
use Rattle.iop_kernel.specs.declared.after.After.{After}
use Rattle.iop_kernel_laws.proofs.Keeping.Blocks.{same_blocks, allocating_keeps, freeing_keeps}
use Rattle.iop_kernel_laws.proofs.Keeping.Handlers.{gives_to}
use Rattle.iop_kernel.proofs.Keeping.Meetings.{stored_then}
use Rattle.iop_kernel.proofs.Keeping.Memory.{Stored, none_stored, one_stored}
use Rattle.iop_kernel_laws.proofs.Walk.Looks.{looks_aside}
use Rattle.iop_kernel.proofs.Walk.Moves.{Moves, CallMoves}
use Rattle.iop_kernel.proofs.Walk.Services.{services_go, asked_not}

-- more is told behind both
contains_more : (lines given more : List Piece)
    → ((piece : Piece) → Contains lines piece → Contains given piece) → (piece : Piece)
    → Contains (lines ++ more) piece → Contains (given ++ more) piece
contains_more lines given more told piece x =
    elim (Contains-append_cases lines more piece x) [
      | inl first ↦ Contains-append_left given more piece (told piece first)
      | inr last ↦ Contains-append_right given more piece last
    ]

module _ (s : System) where
  -- what was stored was told of, at this moment
  pub record HasStored (d : System) (given : List Piece) : Type 0 where
    pub clock : d.core.kernel.clock ≡ s.core.kernel.clock
    pub lines : List Piece
    pub stored : Stored s.core.kernel.clock s.memory d.memory lines
    pub told : (piece : Piece) → Contains lines piece → Contains given piece
    pub blocks : AreKept s.blocks d.blocks

  abbrev Left : After → System → List Piece → Type 0
  Left after d given = HasStored d given

  -- nothing is
  none : (d : System) (given : List Piece) → d.core.kernel.clock ≡ s.core.kernel.clock
      → d.memory ≡ s.memory → AreKept s.blocks d.blocks → HasStored d given
  none d given clock memory kept = record {
    clock = clock;
    lines = [];
    stored = rw memory (none_stored s.core.kernel.clock s.memory);
    told = λ piece x. absurd (omega (arith, x.1));
    blocks = kept;
  }

  nothing : HasStored s []
  nothing = none s [] refl refl (same_blocks s.blocks)

  -- more is
  more : (d : System) (given : List Piece) (place : ℕ) (bytes : List ℕ)
      → place + length bytes ≤ length d.memory.ram → HasStored d given
      → HasStored (stores d (Some place) bytes) (given ++ storing_lines d (Some place) bytes)
  more d given place bytes inside h =
      let clock = s.core.kernel.clock in
      let told = storing_lines d (Some place) bytes in
      let one : Stored clock d.memory (after_store d.memory (Some place) bytes) told =
      subst (λ (n : ℕ). Stored clock d.memory (after_store d.memory (Some place) bytes)
      (store_lines n d.memory (Some place) (length bytes))) (sym h.clock)
      (one_stored clock d.memory (Some place) bytes (λ p e.
      let same : place ≡ p = cc e in omega (arith, inside, same))) in
      record {
        clock = h.clock;
        lines = h.lines ++ told;
        stored = stored_then clock s.memory d.memory _ h.lines told h.stored one;
        told = λ piece x. contains_more h.lines given told h.told piece x;
        blocks = h.blocks;
      }

  stored_moves : (library : ℕ) → Moves HasStored Left ⊤ s library
  stored_moves = looks_aside HasStored Left ⊤ s (record {
    each = record {
      begins = nothing;
      stores = more;
      goes_on = λ d given word h. record {
        clock = h.clock;
        lines = h.lines;
        stored = h.stored;
        told = h.told;
        blocks = h.blocks;
      };
      bad_place = nothing;
      no_thread = λ asked none. nothing;
      prints = λ text. none s _ refl refl (same_blocks s.blocks);
    };
    cores = λ c same. none _ [] same refl (same_blocks s.blocks);
    takes = λ mode size at stack blocks c same is.
        none _ [] same refl (subst (AreKept s.blocks) (ap (λ r. r.1) is)
        (allocating_keeps s.blocks mode size at));
    frees = λ stack c same. none _ [] same refl (freeing_keeps s.blocks stack);
    registers = λ libraries. none _ [] refl refl (same_blocks s.blocks);
    switches = λ d h leave. h;
    returns = λ word leave. none _ [] refl refl (same_blocks s.blocks);
  })

  stored_calls : CallMoves HasStored Left ⊤ s
  stored_calls = record {
    unlisted = λ library number. none _ _ refl refl (same_blocks s.blocks);
    no_service = nothing;
    handler = λ handler is.
        none _ [] (ap (λ (k : Kernel). k.clock) (gives_to s.core.kernel handler.cause _).is) refl
        (same_blocks s.blocks);
  }

  -- whatever is served
  pub services_store : (code : ℕ) → let d = services s code in HasStored d.left.state d.pieces
  services_store = services_go stored_moves stored_calls (asked_not s)

-- it is what the law asks for
pub has_written : (s d : System) (given : List Piece) → HasStored s d given
    → Writes s d.memory given
has_written s d given h = record {
  stores = h.stored.stores;
  inside = h.stored.inside;
  left = h.stored.left;
  told = λ piece x. h.told piece
      (subst (λ (all : List Piece). Contains all piece) (sym h.stored.told) x);
}
