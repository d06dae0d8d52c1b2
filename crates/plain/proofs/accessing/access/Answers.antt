-- `access` meets its contract. Assumes nothing.
use mathlib.Core.Path.{sym, ◌∙◌}
use Rattle.plain.proofs.AccessByRow.{refused-told, names-file, fits_word, fits_byte, write-told, read_told}
use Rattle.plain.proofs.accessing.access.Goals as goal

pub overflow_cast-asked : goal.overflow_cast-asked
overflow_cast-asked c = record {
  fits =
      fits_word c.list.result.now c.list.ensures c.args.whole c.args.asked _ (sym c.look.ensures ∙ c.in-Ok.is)
      (sym c.carries.ensures ∙ c.if-carries.true);
}

pub write_row-requires : goal.write_row-requires
write_row-requires c =
    let means = sym c.look.ensures ∙ c.in-Ok.is in record {
      t = names-file c.list.result.now c.list.ensures c.args.whole c.args.asked _ means;
      value_bound = λ t. (fits_byte c.list.result.now c.list.ensures c.args.whole c.args.asked _ means (sym c.carries.ensures ∙ c.if-carries.true) t);
    }

pub read_row-requires : goal.read_row-requires
read_row-requires c =
    names-file c.list.result.now c.list.ensures c.args.whole c.args.asked _ (sym c.look.ensures ∙ c.in-Ok.is)

pub returns-in-Err : goal.returns-in-Err
returns-in-Err c =
    c.leaving.ensures
    ∙ refused-told c.list.result.now c.list.ensures c.args.whole c.args.asked _ (sym c.look.ensures ∙ c.in-Err.is)

pub returns-then-carries : goal.returns-then-carries
returns-then-carries c =
    c.write_row.ensures
    ∙ (write-told c.list.result.now c.list.ensures c.args.whole c.args.asked _ (sym c.look.ensures ∙ c.in-Ok.is)
    (sym c.carries.ensures ∙ c.if-carries.true))

pub returns-else-carries : goal.returns-else-carries
returns-else-carries c =
    c.read_row.ensures
    ∙ read_told c.list.result.now c.list.ensures c.args.whole c.args.asked _ (sym c.look.ensures ∙ c.in-Ok.is)
    (sym c.carries.ensures ∙ c.if-carries.false)
