use Rattle.std.proofs.Common.{◌≡◌, ℕ, None, [], ◌∷◌, ◌++◌, ap, sym, ◌∙◌}
use Rattle.std.proofs.lemmas.List.Sums.{fold-append}
use Rattle.iop_asm.specs.declared.fault.Fault.{Fault}
use Rattle.iop_asm.specs.Assembly.{first_of, first_fault}
use Rattle.iop_asm.proofs.MissedLemmas.{AreNames-more}
use Rattle.iop_asm.proofs.draft.Draft.note_fault.Goals as goal

pub returns-in_ok-insert : goal.returns-in_ok-insert
returns-in_ok-insert c = λ d h.
    let at_line : ℕ → Fault = λ line. record { line = line; kind = c.args.kind } in
    let first : c.first_of-self.result ≡ first_fault (d.faults ++ at_line d.line ∷ []) =
    c.first_of-self.ensures
    ∙ ap (λ found. first_of found (at_line c.args.self.now.line)) h.fault
    ∙ ap (λ line. first_of (first_fault d.faults) (at_line line)) h.line
    ∙ sym (fold-append first_of None d.faults (at_line d.line ∷ [])) in
    let missed = AreNames-more c.in-Some.label.now c.args.self.now.missed c.insert.new.self
    c.in_ok-insert.ensures.updates d.missed h.missed in
    rw c.in-Some.is (record {
      line = h.line;
      name = h.name;
      version = h.version;
      entry = h.entry;
      bss = h.bss;
      section = h.section;
      table = h.table;
      text = h.text;
      «data» = h.«data»;
      labels = h.labels;
      fault = first;
      missed = missed;
    })
