-- The layers of a memory: what is seen of them, and what a store and a binding leave of them.
use Rattle.std.proofs.Common.{◌≡◌, ℕ, ◌+◌, ◌≤◌, not, Option, Some, None, List, length, get_or, refl, ap, sym, ◌∙◌, subst, arith, IfSome}
use Rattle.std.specs.List.{All}
use Rattle.std.proofs.lemmas.List.Elements.{All-weaker}
use Rattle.iop_base.specs.Numbers.{IsByte, bytes_of, with_bytes}
use Rattle.iop_base.specs.Places.{IsRamSize}
use Rattle.iop_base.specs.declared.words.TheConstants.{JUMP_BACK}
use Rattle.iop_base.proofs.Memory.{length-with_bytes}
use Rattle.iop_stubs.specs.Stubs.{Memory, meets, remaining_stubs, after_store}
use Rattle.iop_stubs.specs.Binding.{jump_word, with_stub, after_bind, MayBind, IsBound, IsSound}
use Rattle.iop_stubs.specs.Layers.{Layers, with_first_words, base_of, layers_of, memory_of, layers_after_store, layers_after_bind, IsUnpatched, AreSound}
use Rattle.iop_stubs.specs.Laws.{IsMemoryOf, AreLayersOf}
use Rattle.iop_stubs.specs.declared.live_stub.Stub.{Stub}
use Rattle.iop_stubs.proofs.Storing.{Apart, apart, remaining_apart, store_sound}
use Rattle.iop_stubs.proofs.Binding.{bind_sound, narrower}
use Rattle.iop_base.proofs.Lists.{with_bytes-again, with_bytes-same, bytes_of-number_at}
use Rattle.iop_stubs.proofs.FirstWords.{AreIn, filter_in, Reads, length-first_words, first_words-swap, first_words-same, first_words-read, first_words-behind, first_words-with_stub, first_words-again, first_words-part}

abbrev jumps : Stub → ℕ
jumps stub = jump_word stub.target

abbrev backs : Stub → ℕ
backs stub = JUMP_BACK

module _ (memory : Memory) (h : IsSound memory) where
  live_in : AreIn (length memory.ram) memory.live
  live_in = record {
    fits =
        All-weaker (IsBound memory.ram) (λ stub. stub.at + 8 ≤ length memory.ram)
        (λ stub b. b.inside) memory.live h.bound;
    apart = h.apart;
  }

  reads_jumps : All (Reads jumps memory.ram) memory.live
  reads_jumps = λ k d below. (h.bound k d below).jump

  pub layers_of-sound : AreSound (layers_of memory)
  layers_of-sound =
      let same = length-first_words backs memory.live memory.ram live_in in
      let word = first_words-read backs memory.live memory.ram live_in in
      let index = first_words-behind backs memory.live memory.ram live_in in
      record {
        sized = subst IsRamSize (sym same) h.sized;
        few = h.few;
        unpatched = λ k d below. let b = h.bound k d below in record {
          aligned = b.aligned;
          inside = omega (arith, b.inside, same);
          jump_back = word k d below;
          index = index k d below ∙ b.index;
          index_small = b.index_small;
          target_aligned = b.target_aligned;
          target_near = b.target_near;
        };
        apart = h.apart;
      }

  pub layers_are_seen : AreLayersOf memory (layers_of memory)
  layers_are_seen = record {
    sound = layers_of-sound;
    same = ap (λ (ram : List ℕ). record { ram = ram; live = memory.live })
        (first_words-again jumps backs memory.live memory.ram live_in
        ∙ first_words-same jumps memory.live memory.ram live_in reads_jumps);
  }

  base_stored : (p : ℕ) (bytes : List ℕ) → p + length bytes ≤ length memory.ram →
      base_of (after_store memory (Some p) bytes)
      ≡ (layers_after_store (layers_of memory) (Some p) bytes).base
  base_stored p bytes inside =
      let len = length bytes in
      first_words-swap backs (remaining_stubs p len memory.live) memory.ram p bytes
      (filter_in (length memory.ram) (λ stub. not (meets p len stub)) memory.live live_in)
      (remaining_apart p len memory.live) inside
      ∙ ap (λ base. with_bytes base p bytes)
      (sym (first_words-part jumps backs (meets p len) memory.live memory.ram live_in reads_jumps))

  pub store_keeps : (place : Option ℕ) (bytes : List ℕ) →
      IfSome place (λ p. p + length bytes ≤ length memory.ram) →
      IsMemoryOf (layers_after_store (layers_of memory) place bytes)
      (after_store memory place bytes)
  store_keeps None bytes inside = record { sound = h; same = refl }
  store_keeps (Some p) bytes inside = record {
    sound = store_sound memory _ _ p (length bytes) bytes refl refl refl inside h;
    same =
        ap (λ (base : List ℕ). record {
          base = base;
          live =
              remaining_stubs p (length bytes) memory.live;
        }) (base_stored p bytes inside);
  }

  module _ (stub : Stub) (all : All IsByte memory.ram) (may : MayBind memory stub) where
    far : All (λ other. Apart other.at stub.at 4) memory.live
    far =
        λ k d below. narrower _ _ (apart (get_or memory.live k d).at stub.at 8
        (may.apart k d below))

    pub base_bound : base_of (after_bind memory stub) ≡ base_of memory
    base_bound =
        let ram = memory.ram in
        let live = memory.live in
        let jump = bytes_of 4 (jumps stub) in
        let back = bytes_of 4 JUMP_BACK in
        let fits : stub.at + 4 ≤ length ram = omega (arith, may.inside) in
        let same = length-with_bytes ram stub.at jump fits in
        let wide : stub.at + 4 ≤ length (base_of memory) =
        omega (arith, fits, length-first_words backs live ram live_in) in
        first_words-with_stub backs stub live (with_bytes ram stub.at jump)
        (subst (λ (n : ℕ). AreIn n live) (sym same) live_in) far
        (omega (arith, may.inside, same))
        ∙ ap (λ m. with_bytes m stub.at back) (first_words-swap backs live ram stub.at jump live_in
        far fits)
        ∙ with_bytes-again (base_of memory) stub.at jump wide back refl
        ∙ sym (first_words-swap backs live ram stub.at back live_in far fits)
        ∙ ap (with_first_words backs live) (with_bytes-same ram stub.at back
        (sym (bytes_of-number_at ram 4 stub.at all fits) ∙ ap (bytes_of 4) may.jump_back))

    pub bind_keeps : IsMemoryOf (layers_after_bind (layers_of memory) stub) (after_bind memory stub)
    bind_keeps = record {
      sound = bind_sound memory _ _ stub refl refl may h;
      same =
          ap (λ (base : List ℕ). record { base = base; live = with_stub stub memory.live })
          base_bound;
    }

module _ (layers : Layers) (h : AreSound layers) where
  unpatched_in : AreIn (length layers.base) layers.live
  unpatched_in = record {
    fits =
        All-weaker (IsUnpatched layers.base) (λ stub. stub.at + 8 ≤ length layers.base)
        (λ stub b. b.inside) layers.live h.unpatched;
    apart = h.apart;
  }

  memory_of-sound : IsSound (memory_of layers)
  memory_of-sound =
      let same = length-first_words jumps layers.live layers.base unpatched_in in
      let word = first_words-read jumps layers.live layers.base unpatched_in in
      let index = first_words-behind jumps layers.live layers.base unpatched_in in
      record {
        sized = subst IsRamSize (sym same) h.sized;
        few = h.few;
        bound = λ k d below. let b = h.unpatched k d below in record {
          aligned = b.aligned;
          inside = omega (arith, b.inside, same);
          jump = word k d below;
          index = index k d below ∙ b.index;
          index_small = b.index_small;
          target_aligned = b.target_aligned;
          target_near = b.target_near;
        };
        apart = h.apart;
      }

  pub layers_are_found : IsMemoryOf layers (memory_of layers)
  layers_are_found = record {
    sound = memory_of-sound;
    same = ap (λ (base : List ℕ). record { base = base; live = layers.live })
        (first_words-again backs jumps layers.live layers.base unpatched_in
        ∙ first_words-same backs layers.live layers.base unpatched_in
        (λ k d below. (h.unpatched k d below).jump_back));
  }
