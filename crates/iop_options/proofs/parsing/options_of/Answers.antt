use Rattle.std.proofs.Common.{◌≡◌, ◌∙◌, ℕ, ◌≤◌, Option, Some, None, IfSome, List, length, map, string_bytes, sym, ap, subst}
use Rattle.std.specs.Option.{option_copied, option_map}
use Rattle.iop_options.specs.Commands.{HasOneSource, IsShortName}
use Rattle.iop_options.specs.Values.{ram_bytes}
use Rattle.iop_options.specs.declared.ram_size.RamSize.TheVariants.{TwoMiB}
use Rattle.iop_options.proofs.SoundLemmas.{budget_within, script_named, snapshot_named, dump_inside, workers_within, source_fits, restored_alone}
use Rattle.iop_options.proofs.parsing.options_of.Goals as goal

pub invariant_of-result : goal.invariant_of-result
invariant_of-result c =
    let ram : c.ram_of.result ≡ Some c.in_ok-ram.ram = c.in_ok-ram.ensures.ok_part in
    let budget : c.budget_of.result ≡ Some c.in_ok-budget.budget = c.in_ok-budget.ensures.ok_part in
    let script : c.script_of.result ≡ Some c.in_ok-script.script = c.in_ok-script.ensures.ok_part in
    let dump : c.dump_of.result ≡ Some c.in_ok-dump.dump = c.in_ok-dump.ensures.ok_part in
    let workers : c.workers_of.result ≡ Some c.in_ok-generate.generate =
    c.in_ok-generate.ensures.ok_part in
    let save : c.snapshot_of.result ≡ Some c.in_ok-save.save = c.in_ok-save.ensures.ok_part in
    let restore : c.snapshot_of-2.result ≡ Some c.in_ok-restore.restore =
    c.in_ok-restore.ensures.ok_part in
    let said = sym c.script_of.ensures ∙ ap (option_map option_copied) script in
    let saved = sym c.snapshot_of.ensures ∙ ap (option_map option_copied) save in
    let kept = sym c.snapshot_of-2.ensures ∙ ap (option_map option_copied) restore in
    let name = option_copied c.in_ok-restore.restore in
    record {
      budget = budget_within (option_copied c.get_str.result) c.in_ok-budget.budget
          (sym c.budget_of.ensures ∙ budget);
      script = subst (λ (n : Option (List ℕ)). IfSome n (λ t. 1 ≤ length t))
          (sym c.in_ok-copied.ensures)
          (script_named (option_copied c.get_str-script.result)
          (option_copied c.in_ok-script.script) said);
      dump = dump_inside (ram_bytes c.in_ok-ram.ram) (option_copied c.get_str-2.result)
          c.in_ok-dump.dump (sym c.dump_of.ensures ∙ dump);
      workers = workers_within (option_copied c.get_str-3.result) c.in_ok-generate.generate
          (sym c.workers_of.ensures ∙ workers);
      save = subst (λ (n : Option (List ℕ)). IfSome n IsShortName) (sym c.in_ok-copied-2.ensures)
          (snapshot_named (option_copied c.get_str-4.result) (option_copied c.in_ok-save.save)
          saved);
      restore = subst (λ (n : Option (List ℕ)). IfSome n IsShortName) (sym c.in_ok-copied-3.ensures)
          (snapshot_named (option_copied c.get_str-restore.result) name kept);
      source = subst (λ (n : Option (List ℕ)). HasOneSource c.in_ok-generate.generate n
          (map string_bytes c.in_ok-copied_all.field-0.items)) (sym c.in_ok-copied-3.ensures)
          (subst (λ (words : List (List ℕ)). HasOneSource c.in_ok-generate.generate name words)
          (sym c.in_ok-copied_all.ensures) (source_fits c.in_ok-generate.generate name
          (map (λ word. word.now) c.unwrap_or-modules.result.now)
          (sym c.has_one_source.ensures ∙ c.if-not-has_one_source.false)));
      restored = subst (λ (n : Option (List ℕ)). IfSome n
          (λ t. (option_map string_bytes c.in_ok-copied.field-0 ≡ None)
          × (c.in_ok-ram.ram ≡ TwoMiB)))
          (sym c.in_ok-copied-3.ensures)
          (subst (λ (s : Option (List ℕ)). IfSome name
          (λ t. (s ≡ None) × (c.in_ok-ram.ram ≡ TwoMiB))) (sym c.in_ok-copied.ensures)
          (restored_alone (option_copied c.get_str-restore.result)
          (option_copied c.get_str-script.result) (option_copied c.get_str-ram.result) name
          (option_copied c.in_ok-script.script) c.in_ok-ram.ram
          (sym c.is_unmixed.ensures ∙ c.if-not-is_unmixed.false) kept said
          (sym c.ram_of.ensures ∙ ram)));
    }
