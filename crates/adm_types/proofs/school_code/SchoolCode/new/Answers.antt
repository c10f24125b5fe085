use Rattle.adm_types.proofs.CodeTexts.{code_from_facts}
use Rattle.adm_types.proofs.school_code.SchoolCode.new.Goals as goal

pub returns-clause-reads : goal.returns-clause-reads
returns-clause-reads c = code_from_facts c.args.text.now c.padded.result c.padded.ensures.valid c.padded.ensures.value
