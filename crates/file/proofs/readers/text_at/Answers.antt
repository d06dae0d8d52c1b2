-- `text_at` meets its contract. Assumes nothing.
use Rattle.file.specs.declared.answer.Answer.TheVariants.{NoRegister}
use Rattle.file.proofs.Looked.{told-one}
use Rattle.file.proofs.readers.text_at.Goals as goal

pub returns : goal.returns
returns c = told-one c.args.texts.now c.args.place NoRegister c.told.result c.ok.result c.ok.ensures.value c.told.ensures
