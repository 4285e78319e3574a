-- The module that is begun has its image in RAM, and a number in front of the next one.
use Rattle.std.proofs.Common.{◌≡◌, ℕ, zero, suc, ◌+◌, ◌≤◌, true, None, Result, Ok, Err, IfOk, List, [], ◌∷◌, length, arith, refl, ap, ◌∙◌, subst}
use Rattle.std.proofs.lemmas.Bool.{and_from, eq-eqb, le-leb, lt-ltb}
use Rattle.iop_base.specs.BlockSizes.{block_len}
use Rattle.iop_base.specs.declared.code.Code.{Code}
use Rattle.irx_elf.specs.Parts.{Parts}
use Rattle.iop_linker.specs.Linking.{linking}
use Rattle.iop_linker.specs.declared.link_fault.LinkFault.{LinkFault}
use Rattle.iop_machine.specs.Iop.{Iop, Transition}
use Rattle.iop_machine.specs.Loader.{is_inside, may_have_begun}
use Rattle.iop_machine.specs.Loading.{loading_of, places, enters_or, loads_first}
use Rattle.iop_machine.specs.Modules.{Module, ModulesLeft, NamedFile, modules_from, modules_of, without_first}
use Rattle.iop_modload.proofs.LoadingLemmas.{loading_keeps}
use Rattle.iop_modload.proofs.Placed.{IsPlaced, placed, small}
use Rattle.iop_modload.proofs.Reading.{IsModule, is_module}
use Rattle.iop_modload.specs.Laws.{HasBlocks}
use Rattle.iop_modload.specs.Loading.{Loads, links_it, loads_at, loads_parts, loads, with_image}
use Rattle.iop_modload.specs.Modules.{module_of_file}
use Rattle.iop_modload.specs.declared.loaded.Loaded.{Loaded}
use Rattle.iop_registry.specs.declared.registry.Entry.{Entry}
use Rattle.iop_resumable.proofs.TakenBlocks.{range_there}
use Rattle.iop_script.specs.Scripts.{Args, Named, words_for}
use Rattle.iop_stubs.specs.Stubs.{Memory}
use Rattle.iop_stubs.specs.declared.live_stub.Stub.{Stub}
use Rattle.iop_sysmem.specs.Allocating.{allocating}
use Rattle.iop_sysmem.specs.BlockMap.{BlockMap}

-- ---- one module

module _ (t : ℕ) (memory : Memory) (blocks : BlockMap) (libraries : List Entry)
    (h : HasBlocks memory blocks) where
  abbrev size : ℕ
  size = length memory.ram

  -- where a module was loaded, its image stands inside
  abbrev Inside : Loads → Type 0
  Inside l = IfOk l.answer (λ loaded. is_inside size loaded.place ≡ true)

  linked_inside : (parts : Parts) (base : ℕ) (taken : BlockMap)
      → is_inside size (record { base = base; len = parts.length }) ≡ true
      → (r : Result (List Stub) LinkFault)
      → Inside (links_it t memory blocks libraries parts base taken r)
  linked_inside parts base taken is (Ok stubs) = is
  linked_inside parts base taken is (Err fault) = tt

  place_inside : (parts : Parts) → IsModule parts → (n : ℕ)
      → (allocating blocks 0 parts.length 0).0 ≡ suc n
      → is_inside size (record { base = suc n; len = parts.length }) ≡ true
  place_inside parts is n e =
      let text : 4 ≤ parts.info.text_size = is.sound.text in
      let long : 4 ≤ parts.length =
      omega (arith, text, is.sound.text_within, is.sound.image_within) in
      let at : IsPlaced memory blocks (allocating blocks 0 parts.length 0).1 parts.length (suc n) =
      subst (IsPlaced memory blocks (allocating blocks 0 parts.length 0).1 parts.length) e
      (placed memory blocks parts.length h.are_blocks h.same_size
      (omega (arith, h.same_size, small size h.sound.sized)) (omega (arith, long)) (omega arith)) in
      let fits : suc n + block_len parts.length ≤ size =
      omega (arith, at.least.0.fits, h.same_size) in
      and_from _ _ (and_from _ _ (and_from _ _
      (and_from _ _ (eq-eqb _ 0 at.unit) (le-leb _ _ at.behind_kernel))
      (le-leb _ _ long)) (le-leb _ _ (omega (arith, at.inside))))
      (range_there size (suc n) (block_len parts.length)
      (omega (arith, small size h.sound.sized, fits, long)) (omega (arith, long)) fits)

  by_place : (parts : Parts) → IsModule parts → (place : ℕ)
      → (allocating blocks 0 parts.length 0).0 ≡ place
      → Inside (loads_at t memory blocks libraries parts
      (place, (allocating blocks 0 parts.length 0).1))
  by_place parts is zero e = tt
  by_place parts is (suc n) e =
      linked_inside parts (suc n) (allocating blocks 0 parts.length 0).1
      (place_inside parts is n e)
      (linking (with_image t memory blocks libraries parts (suc n)) libraries (suc n)
      parts.info.text_size)

  by_parts : (r : Result Parts Code) (file : List ℕ) → module_of_file file ≡ r
      → Inside (loads_parts t memory blocks libraries r)
  by_parts (Err code) file e = tt
  by_parts (Ok parts) file e =
      by_place parts (is_module file parts e) (allocating blocks 0 parts.length 0).0 refl

  loads_inside : (file : List ℕ) → Inside (loads t memory blocks libraries file)
  unfolding loads
  loads_inside file = by_parts (module_of_file file) file refl

-- ---- the first module that loads

-- the modules that are left, of these files
abbrev left_with : (args : List Args) (named : List Named) (next : ℕ) → List NamedFile
    → ModulesLeft
left_with args named next files =
    record { args = args; named = named; next = next; files = files }

module _ (bytes : ℕ) where
  abbrev pub RunsIn : Iop → Type 0
  RunsIn s = may_have_begun bytes s.modules.next s.begun ≡ true

  -- memory of so many bytes, and its blocks
  pub record IsWhole (s : Iop) : Type 0 where
    pub blocks : HasBlocks s.memory s.blocks
    pub size : length s.memory.ram ≡ bytes

  -- the module that is begun can run, and where none is, none is left
  pub record HasBegun (s : Iop) : Type 0 where
    pub runs : RunsIn s
    pub none : s.begun ≡ None → s.modules.files ≡ []

  -- by what the loading of a module came to, where the next one leaves it so
  entered : (args : List Args) (named : List Named) (rest : List NamedFile)
      (first : Iop → Transition Iop) (number : ℕ) → 1 ≤ number
      → ((v : Iop) → v.modules ≡ left_with args named (suc number) rest → IsWhole v
      → HasBegun (first v).state)
      → (v : Iop) → v.modules ≡ left_with args named (suc number) rest → IsWhole v
      → (m : Module) → m.number ≡ number → (r : Result Loaded Code)
      → IfOk r (λ loaded. is_inside bytes loaded.place ≡ true)
      → HasBegun (enters_or first v m r).state
  entered args named rest first number some others v left whole m is (Err code) inside =
      others v left whole
  entered args named rest first number some others v left whole m is (Ok loaded) inside =
      record {
        runs = and_from _ _ (and_from _ _ (le-leb 1 m.number (omega (arith, some, is)))
            (lt-ltb m.number v.modules.next
            (omega (arith, is, ap (λ (l : ModulesLeft). l.next) left)))) inside;
        none = λ none. absurd (cc none);
      }

  loads_from : (args : List Args) (named : List Named) (files : List NamedFile) (next : ℕ)
      → 1 ≤ next → (s : Iop) → s.modules ≡ left_with args named next files → IsWhole s
      → HasBegun (loads_first (modules_from args named next files) s).state
  unfolding loads_first
  loads_from args named [] next some s left whole = record {
    runs = refl;
    none = λ none. ap (λ (l : ModulesLeft). l.files) left;
  }
  loads_from args named (first ∷ rest) next some s left whole =
      let m : Module = record {
        number = next;
        words = first.name ∷ words_for args named next first.name;
        file = first.file;
      } in
      let l = loading_of s m in
      let kept = loading_keeps s.kernel.clock s.memory s.blocks s.libraries whole.blocks m.file in
      let inside =
      loads_inside s.kernel.clock s.memory s.blocks s.libraries whole.blocks m.file in
      entered args named rest (loads_first (modules_from args named (suc next) rest)) next some
      (loads_from args named rest (suc next) (omega arith)) (places s l).state
      (ap without_first left)
      (record { blocks = kept.whole; size = kept.size ∙ whole.size }) m refl l.answer
      (subst (λ (n : ℕ). IfOk l.answer (λ loaded. is_inside n loaded.place ≡ true)) whole.size
      inside)

  pub first_begun : (s : Iop) → 1 ≤ s.modules.next → IsWhole s
      → HasBegun (loads_first (modules_of s.modules) s).state
  first_begun s some whole =
      loads_from s.modules.args s.modules.named s.modules.files s.modules.next some s refl whole
