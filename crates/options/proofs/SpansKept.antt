-- Every span of what is asked for, or of what is refused, is within the slice of the words. Assumes nothing.
use Prim.Native.Nat.{ℕ, zero, suc, ◌+◌, ◌≤◌, ◌<◌}
use mathlib.Core.Bool.{Bool, true, false, cond}
use mathlib.Core.List.{List, [], ◌∷◌}
use mathlib.Core.Path.{◌≡◌, refl}
use native.Mathlib.Omega.{arith}
use borrow.Author.Tests.{eqb-true, eqb-false, ltb-true, ltb-false}
use lib.Dec.{eqb, ltb}
use lib.ListN.{length, get_or, set, replicate, length-set, get_or-eq_default}
use lib.Seq.{get_or-set_same, get_or-set_other}
use Rattle.std.proofs.Common.{Option, Some, None, Result, Ok, Err}
use Rattle.std.specs.Option.{IfSome, is_some}
use Rattle.std.specs.Result.{MatchResult}
use Rattle.bits.proofs.Test.{by-test}
use Rattle.file.specs.Readers.{ascii, same}
use Rattle.options.specs.declared.types.Asked.{Asked}
use Rattle.options.specs.declared.types.Command.{Command}
use Rattle.options.specs.declared.types.Reading.{Reading}
use Rattle.options.specs.declared.types.Refused.{Refused}
use Rattle.options.specs.declared.types.Slot.{Slot}
use Rattle.options.specs.declared.types.Slot.TheVariants as slots
use Rattle.options.specs.declared.types.Span.{Span}
use Rattle.options.specs.declared.types.Waiting.{Waiting}
use Rattle.options.specs.declared.types.Wrong.{Wrong}
use Rattle.options.specs.declared.types.Wrong.TheVariants.{BothStandardInput}
use Rattle.options.specs.Words.{is_option, name_span, part, span, words_from}
use Rattle.options.specs.Table.{command_named, option_named, value_count}
use Rattle.options.specs.Slots.{awaiting, begun, command_read, counted, filled, number_of, options_ended, refused, slot_count, taken_at}
use Rattle.options.specs.Steps.{allowed, alone, cause_of, commanded, commanded_by, equalled, is_bad, is_excluded, next_waiting, operand}
use Rattle.options.specs.Steps.{optioned, optioned_by, stepped, unended, value_taken, valued, waiting, waits_next, worded, worded_by}
use Rattle.options.specs.Asking.{asked, asked_by, both_standard, folded, is_whole, of_both, read_words, told, told_by, told_of}
use Rattle.options.specs.Within.{AllWithin, BothInside, Inside, InsideIf, SpansWithin, WordWithin}
use Rattle.options.proofs.Parts.{name-within}

-- what waits, and every slot, is within so many bytes
record Kept (size : ℕ) (r : Reading) : Type 0 where
  waits : IfSome r.waiting (λ (w : Waiting). Inside size w.option)
  slots : (k : ℕ) → InsideIf size (get_or r.filled k None)

-- a reading that goes on, or a wrong word
record Goes (size : ℕ) (r : Result Reading Refused) : Type 0 where
  goes : MatchResult r (Kept size) (WordWithin size)

on : {size : ℕ} {r : Reading} → Kept size r → Goes size (Ok r)
on k = record { goes = k }

either : {size : ℕ} {x y : Result Reading Refused} (b : Bool) → Goes size x → Goes size y → Goes size (cond b x y)
either true k l = k
either false k l = l

-- the first need be kept only where it is chosen
either-by : {size : ℕ} {x y : Result Reading Refused} (b : Bool) → (b ≡ true → Goes size x) → Goes size y → Goes size (cond b x y)
either-by true k l = k refl
either-by false k l = l

either-kept : {size : ℕ} {x y : Reading} (b : Bool) → Kept size x → Kept size y → Kept size (cond b x y)
either-kept true k l = k
either-kept false k l = l

-- a span in a slot
set-inside : (size : ℕ) (filled : List (Option Span)) (slot : ℕ) (s : Span) → Inside size s → ((k : ℕ) → InsideIf size (get_or filled k None))
    → (k : ℕ) → InsideIf size (get_or (set filled slot (Some s)) k None)
set-inside size filled slot s i held k =
    by-test (eqb k slot)
    (λ t. rw (eqb-true k slot t)
    (by-test (ltb slot (length filled))
    (λ u. rw (get_or-set_same filled slot (Some s) None (ltb-true slot (length filled) u)) i)
    (λ u.
    let over = ltb-false slot (length filled) u in
    let none = get_or-eq_default (set filled slot (Some s)) None {n = slot} (omega (arith, length-set filled slot (Some s), over)) in
    rw none tt)))
    (λ t. rw (get_or-set_other filled slot k (Some s) None (eqb-false k slot t)) (held k))

waits-kept : (size : ℕ) (slot : Slot) (option : Span) → Inside size option → IfSome (waits_next slot option) (λ (w : Waiting). Inside size w.option)
unfolding waits_next
waits-kept size slots.Hex option i = tt
waits-kept size slots.Quiet option i = tt
waits-kept size slots.Chip option i = tt
waits-kept size slots.Engine option i = tt
waits-kept size slots.Since option i = tt
waits-kept size slots.Wide option i = tt
waits-kept size slots.Write option i = tt
waits-kept size slots.Summary option i = tt
waits-kept size slots.Of option i = i
waits-kept size slots.Mhz option i = tt
waits-kept size slots.Operand option i = tt

module _ (size : ℕ) (r : Reading) (kept : Kept size r) where
  wrong-word : (wrong : Wrong) (s : Span) → Inside size s → Goes size (Err (refused r wrong (Some s)))
  unfolding refused
  wrong-word wrong s i = record { goes = record { word = i; slots = kept.slots } }

  counted-kept : Kept size (counted r)
  unfolding counted
  counted-kept = record { waits = kept.waits; slots = kept.slots }

  command-kept : (command : Command) → Kept size (command_read r command)
  unfolding command_read
  command-kept command = record { waits = kept.waits; slots = kept.slots }

  ended-kept : Kept size (options_ended r)
  unfolding options_ended
  ended-kept = record { waits = kept.waits; slots = kept.slots }

  awaiting-kept : (w : Option Waiting) → IfSome w (λ (x : Waiting). Inside size x.option) → Kept size (awaiting r w)
  unfolding awaiting
  awaiting-kept w i = record { waits = i; slots = kept.slots }

  filled-kept : (slot : Slot) (s : Span) → Inside size s → Kept size (filled r slot s)
  unfolding filled
  filled-kept slot s i = record { waits = kept.waits; slots = set-inside size r.filled (number_of slot) s i kept.slots }

module _ (size : ℕ) (words : List ℕ) (r : Reading) (kept : Kept size r) where
  valued-goes : (w : Waiting) (s : Span) → Inside size w.option → Inside size s → Goes size (valued words r w s)
  unfolding valued value_taken next_waiting
  valued-goes w s o i =
      either (is_bad w.slot (part words s)) (wrong-word size r kept (cause_of w.slot) s i)
      (on (awaiting-kept size (filled r w.slot s) (filled-kept size r kept w.slot s i) (waits_next w.slot w.option) (waits-kept size w.slot w.option o)))

  operand-goes : (s : Span) → Inside size s → Goes size (operand words r s)
  unfolding operand
  operand-goes s i =
      either (is_some (taken_at r slots.Operand)) (wrong-word size r kept _ s i)
      (either (same (part words s) []) (wrong-word size r kept _ s i) (on (filled-kept size r kept slots.Operand s i)))

-- an option, whose name is within its word
module _ (size : ℕ) (words : List ℕ) (r : Reading) (kept : Kept size r) (option : Slot) (name : Span) (end : ℕ) (i : Inside size name) (h : end ≤ size) where
  equalled-goes : name.end < end → Goes size (equalled words r option name end)
  unfolding equalled
  equalled-goes less =
      either (eqb (value_count option) 1)
      (valued-goes size words r kept (waiting option name) (span (name.end + 1) end) i (record { ordered = omega (arith, less); within = h }))
      (wrong-word size r kept _ name i)

  alone-kept : Kept size (alone r option name)
  unfolding alone
  alone-kept =
      either-kept (eqb (value_count option) 0) (filled-kept size r kept option name i) (awaiting-kept size r kept (Some (waiting option name)) i)

  allowed-goes : Goes size (allowed words r option name end)
  unfolding allowed
  allowed-goes =
      either (is_some (taken_at r option)) (wrong-word size r kept _ name i)
      (either (is_excluded r option) (wrong-word size r kept _ name i)
      (either-by (ltb name.end end) (λ t. equalled-goes (ltb-true name.end end t)) (on alone-kept)))

optioned-goes : (size : ℕ) (words : List ℕ) (r : Reading) → Kept size r → (option : Option Slot) (name : Span) (end : ℕ) → Inside size name → end ≤ size
    → Goes size (optioned_by words r option name end)
unfolding optioned_by
optioned-goes size words r kept None name end i h = wrong-word size r kept _ name i
optioned-goes size words r kept (Some option) name end i h = allowed-goes size words r kept option name end i h

name-inside : (words : List ℕ) (s : Span) → Inside (length words) s → Inside (length words) (name_span words s)
unfolding name_span
name-inside words s i = record { ordered = omega arith; within = omega (arith, name-within words s, i.ordered, i.within) }

-- a word
module _ (words : List ℕ) where
  commanded-goes : (r : Reading) → Kept (length words) r → (s : Span) → Inside (length words) s → (command : Option Command)
      → Goes (length words) (commanded_by r s command)
  unfolding commanded_by
  commanded-goes r kept s i None = wrong-word (length words) r kept _ s i
  commanded-goes r kept s i (Some command) = on (command-kept (length words) r kept command)

  worded-goes : (r : Reading) → Kept (length words) r → (s : Span) → Inside (length words) s → (command : Option Command) (w : Option Waiting)
      → IfSome w (λ (x : Waiting). Inside (length words) x.option) → Goes (length words) (worded_by words r command w s)
  unfolding worded_by commanded unended optioned ascii
  worded-goes r kept s i None w o = commanded-goes r kept s i (command_named (part words s))
  worded-goes r kept s i (Some command) (Some w) o = valued-goes (length words) words r kept w s o i
  worded-goes r kept s i (Some command) None o =
      either r.ended (operand-goes (length words) words r kept s i)
      (either (same (part words s) (ascii "--")) (on (ended-kept (length words) r kept))
      (either (is_option (part words s))
      (optioned-goes (length words) words r kept (option_named command (part words (name_span words s))) (name_span words s) s.end (name-inside words s i) i.within)
      (operand-goes (length words) words r kept s i)))

  stepped-goes : (r : Reading) → Kept (length words) r → (s : Span) → Inside (length words) s → Goes (length words) (stepped words r s)
  unfolding stepped worded refused
  stepped-goes r kept s i =
      let more = counted-kept (length words) r kept in
      either (ltb r.count 64) (worded-goes (counted r) more s i (counted r).command (counted r).waiting more.waits) (record { goes = record { word = tt; slots = kept.slots } })

  -- the words of what is left
  folded-goes : (rest : List ℕ) (start at : ℕ) (r : Result Reading Refused) → Goes (length words) r → start ≤ at → at + length rest ≤ length words
      → Goes (length words) (folded words r (words_from start at rest))
  unfolding folded words_from
  folded-goes [] start at r goes h k = goes
  folded-goes (b ∷ bs) start at (Err e) goes h k =
      by-test (eqb b 0) (λ t. rw t goes) (λ t. rw t (folded-goes bs start (suc at) (Err e) goes (omega (arith, h)) (omega (arith, k))))
  folded-goes (b ∷ bs) start at (Ok r) goes h k =
      by-test (eqb b 0)
      (λ t. rw t (folded-goes bs (suc at) (suc at) (stepped words r (span start at))
      (stepped-goes r goes.goes (span start at) (record { ordered = h; within = omega (arith, k) })) (omega arith) (omega (arith, k))))
      (λ t. rw t (folded-goes bs start (suc at) (Ok r) goes (omega (arith, h)) (omega (arith, k))))

none-at : (n k : ℕ) → ◌≡◌ {A = Option Span} (get_or (replicate n None) k None) None
none-at zero k = refl
none-at (suc n) zero = refl
none-at (suc n) (suc k) = none-at n k

begun_kept : (size : ℕ) → Kept size begun
unfolding begun
begun_kept size = record { waits = tt; slots = λ k. rw (none-at slot_count k) tt }

-- ---- after the last word

of-inside : (size : ℕ) (name mhz : Option Span) → InsideIf size name → InsideIf size mhz → IfSome (of_both name mhz) (BothInside size)
unfolding of_both
of-inside size None mhz n m = tt
of-inside size (Some name) None n m = tt
of-inside size (Some name) (Some mhz) n m = record { name = n; mhz = m }

module _ (size : ℕ) (words : List ℕ) (r : Reading) (kept : Kept size r) where
  at_slot : (slot : Slot) → InsideIf size (taken_at r slot)
  unfolding taken_at
  at_slot slot = kept.slots (number_of slot)

  asked-within : (command : Command) (file : Span) → Inside size file → SpansWithin size (asked_by words r command file)
  unfolding asked_by
  asked-within command file i =
      record {
        since = at_slot slots.Since;
        of = of-inside size (taken_at r slots.Of) (taken_at r slots.Mhz) (at_slot slots.Of) (at_slot slots.Mhz);
        list = at_slot slots.Write;
        file = i;
      }

  told-within : (command : Option Command) (w : Option Waiting) (file : Option Span) → IfSome w (λ (x : Waiting). Inside size x.option) → InsideIf size file
      → AllWithin size (told_by words r command w file)
  unfolding told_by refused
  told-within None w file o i = record { within = record { word = tt; slots = kept.slots } }
  told-within (Some command) (Some w) file o i = record { within = record { word = o; slots = kept.slots } }
  told-within (Some command) None None o i = record { within = record { word = tt; slots = kept.slots } }
  told-within (Some command) None (Some file) o i =
      chosen_within (both_standard words (taken_at r slots.Since) file)
    where
      chosen_within : (b : Bool) → AllWithin size (cond b (Err (refused r BothStandardInput (Some file))) (Ok (asked_by words r command file)))
      chosen_within true = record { within = record { word = i; slots = kept.slots } }
      chosen_within false = record { within = asked-within command file i }

within-either : {size : ℕ} {x y : Result Asked Refused} (b : Bool) → AllWithin size x → AllWithin size y → AllWithin size (cond b x y)
within-either true k l = k
within-either false k l = l

told-of-within : (words : List ℕ) (r : Result Reading Refused) → Goes (length words) r → AllWithin (length words) (told_of words r)
unfolding told_of told
told-of-within words (Err e) goes = record { within = goes.goes }
told-of-within words (Ok r) goes =
    let kept = goes.goes in
    told-within (length words) words r kept r.command r.waiting (taken_at r slots.Operand) kept.waits (at_slot (length words) words r kept slots.Operand)

-- the theorem
pub spans-within : (words : List ℕ) → AllWithin (length words) (asked words)
unfolding asked read_words refused
spans-within words =
    within-either (is_whole words)
    (told-of-within words (read_words words) (folded-goes words words 0 0 (Ok begun) (on (begun_kept (length words))) (omega arith) (omega arith)))
    (record { within = record { word = tt; slots = Kept.slots (begun_kept (length words)) } })
