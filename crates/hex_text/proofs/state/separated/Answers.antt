-- `separated` meets its contract, by what its tests found. Assumes nothing.
use mathlib.Core.Path.{sym, ◌∙◌}
use borrow.Author.Tests.{eq-eqb, ne_eqb}
use Rattle.hex_text.specs.Machine.{separated_by}
use Rattle.hex_text.proofs.state.separated.Goals as goal

pub returns-then-blank : goal.returns-then-blank
unfolding separated_by
returns-then-blank c = rw (sym c.blank.ensures ∙ c.if-blank.true) (cc c.moved.ensures)

pub returns-then-byte-eq10 : goal.returns-then-byte-eq10
unfolding separated_by
returns-then-byte-eq10 c =
    let b = c.args.byte in
    rw (sym c.blank.ensures ∙ c.if-blank.false, eq-eqb b 0x0A c.if-byte-eq10.true) c.new_line.ensures

pub returns-then-byte-eq35 : goal.returns-then-byte-eq35
unfolding separated_by
returns-then-byte-eq35 c =
    let b = c.args.byte in
    rw
    (sym c.blank.ensures ∙ c.if-blank.false, ne_eqb b 0x0A c.if-byte-eq10.false, eq-eqb b 0x23 c.if-byte-eq35.true)
    c.standing_at.ensures

pub returns-then-byte-eq13 : goal.returns-then-byte-eq13
unfolding separated_by
returns-then-byte-eq13 c =
    let b = c.args.byte in
    rw (
      sym c.blank.ensures ∙ c.if-blank.false,
      ne_eqb b 0x0A c.if-byte-eq10.false,
      ne_eqb b 0x23 c.if-byte-eq35.false,
      eq-eqb b 0x0D c.if-byte-eq13.true,
    )
    c.standing_at-then-byte-eq13.ensures

pub returns : goal.returns
unfolding separated_by
returns c =
    let b = c.args.byte in
    rw (
      sym c.blank.ensures ∙ c.if-blank.false,
      ne_eqb b 0x0A c.if-byte-eq10.false,
      ne_eqb b 0x23 c.if-byte-eq35.false,
      ne_eqb b 0x0D c.if-byte-eq13.false,
    )
    c.standing_at-2.ensures
