use Rattle.iop_saved_script.proofs.Texts.{text_read, no_text}
use Rattle.iop_saved_script.proofs.text.restore_text.Goals as goal

pub returns-in_default-from_utf8 : goal.returns-in_default-from_utf8
returns-in_default-from_utf8 c =
    no_text _ c.in-Some.bytes.now c.lend_bytes.new.decoder c.in-Some.ensures
    c.in_default-from_utf8.ensures.cases.0

pub returns : goal.returns
returns c =
    let text = c.in-Ok.ensures.cases in
    rw (c.in_ok-from_str.ensures.ok, text.0)
    (text_read _ c.in-Some.bytes.now c.lend_bytes.new.decoder c.in-Some.ensures text.1)
