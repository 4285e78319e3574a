use Rattle.iop_saved_script.proofs.ShortScripts.{script_of-short}
use Rattle.iop_saved_script.proofs.laws.short_texts_give_short_scripts.Goals as goal

pub returns : goal.returns
returns c = script_of-short
