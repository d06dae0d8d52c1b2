-- 'Explain': the lines of a record. The first has its number, the record, the place that it found, its code and what that means, and where it may
-- change a register the register with the bits in reach and what did change; below it stands a line for all else that is in reach, and for each timing
-- number that has a bit there.
-- Assumes nothing.
use Rattle.std.specs.Prelude.{ℕ, ◌+◌, ◌-◌, ◌*◌, ◌/◌, ◌%◌, Bool, true, false, cond, not, ◌||◌, List, [], ◌∷◌, eqb, ltb, get_or}
use Rattle.std.specs.Result.{result_unwrap_or}
use Rattle.file.specs.declared.answer.Answer.{Answer}
use Rattle.file.specs.declared.effect.Effect.TheVariants.{Nothing}
use Rattle.file.specs.declared.effect.Reach.{Reach}
use Rattle.file.specs.declared.palette.Colour.{Colour}
use Rattle.file.specs.declared.palette.Pointer.{Pointer}
use Rattle.file.specs.declared.registers.File.{File}
use Rattle.file.specs.Answers.{code_of}
use Rattle.file.specs.Effects.{reach_of}
use Rattle.file.specs.File.{register, black}
use Rattle.timing.specs.Table.{wide}
use Rattle.access.specs.declared.record.Item.{Item}
use Rattle.access.specs.declared.record.Item.TheVariants.{Whole, Fragment}
use Rattle.access.specs.Access.{access_item, read_reach, record_in}
use Rattle.explaining.specs.declared.token.Token.{Token}
use Rattle.explaining.specs.declared.explain.Case.{Case}
use Rattle.explaining.specs.Lines.{Line, blank, columned, decimal_token, hex_token, lines_of, most_answer, name_token, nothing, phrase, say, told}
use Rattle.explaining.specs.Moves.{may_move, number_label, numbers_in}
use Rattle.explaining.specs.Words.{answer_words, found, item_words, looked_words}

-- ---- what is told of a record

unfoldable pub is_whole : Item → Bool
is_whole (Whole r) = true
is_whole (Fragment r) = false

-- what a record may change in a file; a fragment is refused
unfoldable pub reach_in : File → Item → Reach
reach_in f (Whole r) = result_unwrap_or (read_reach f r) (reach_of Nothing)
reach_in f (Fragment r) = reach_of Nothing

unfoldable pub case_of : ℕ → File → Item → Case
case_of number f item =
    record {
      number = number;
      whole = is_whole item;
      asked = record_in item;
      before = f;
      after = (access_item f item).file;
      answer = (access_item f item).answer;
      reach = reach_in f item;
      found = found f (record_in item);
      old = numbers_in f;
      new = numbers_in (access_item f item).file;
    }

-- ---- before and after

-- the column of what may change
abbrev pub reach_column : ℕ
reach_column = 65

-- 'what did change (3Eh -> 2Eh)'; 'V total 525, not moved'
unfoldable pub changed : Line → List Token → List Token → Bool → Line
changed l before after moved =
    told (told (told l before) (phrase (cond moved (say " -> ") (say ", not moved") ∷ []))) (cond moved after (phrase (nothing ∷ [])))

-- a line below the first: the record's number again, and what is in reach
unfoldable pub part_line : ℕ → Bool → List Token → List Token → List Token → Bool → Line
part_line number shown label before after moved =
    cond shown (changed (told (columned (told blank (phrase (decimal_token number ∷ []))) reach_column) label) before after moved) blank

-- a register in reach: its bits that are, in as many digits as those have
unfoldable pub bit_digits : ℕ → ℕ
bit_digits bits = cond (ltb bits 0x100) 2 4

unfoldable pub register_part : Line → ℕ → ℕ → ℕ → ℕ → Line
register_part l number bits old new =
    changed
    (told (columned l reach_column) (phrase (name_token number ∷ say "[" ∷ hex_token (bit_digits bits) bits ∷ say "] " ∷ [])))
    (phrase (hex_token (bit_digits bits) old ∷ [])) (phrase (hex_token (bit_digits bits) new ∷ [])) (not (eqb old new))

-- ---- the first line

unfoldable pub head_line : Case → Line
head_line c =
    told
    (columned
    (told
    (columned
    (told (columned (told (columned (told blank (phrase (decimal_token c.number ∷ []))) 8) (item_words c.whole c.asked)) 36) (looked_words c.whole (code_of c.answer) c.asked c.found))
    56)
    (phrase (decimal_token (code_of c.answer) ∷ [])))
    59)
    (answer_words c.before c.asked c.whole c.answer)

unfoldable pub first_line : Case → Line
first_line c =
    cond (eqb c.reach.bits 0) (head_line c)
    (register_part (head_line c) c.reach.register c.reach.bits (register c.before c.reach.register) (register c.after c.reach.register))

-- ---- the others

unfoldable pub toggle_words : Bool → List Token
toggle_words toggle = phrase (cond toggle (say "data") (say "index") ∷ [])

unfoldable pub toggle_line : Case → Line
toggle_line c =
    part_line c.number c.reach.toggle (phrase (say "toggle " ∷ [])) (toggle_words c.before.state.toggle) (toggle_words c.after.state.toggle)
    (not (eqb (cond c.before.state.toggle 1 0) (cond c.after.state.toggle 1 0)))

unfoldable pub colour_word : ℕ → Token
colour_word n = cond (eqb n 0) (say "red") (cond (eqb n 1) (say "green") (say "blue"))

unfoldable pub byte_token : ℕ → Token
byte_token n = hex_token 2 n

-- 'An address, a mode, a next colour .. and two held bytes'
unfoldable pub pointer_words : Pointer → List Token
pointer_words p =
    phrase
    (byte_token p.address
    ∷ cond p.reading (say " read ") (say " write ")
    ∷ colour_word p.next
    ∷ say ", held "
    ∷ byte_token p.red
    ∷ say " "
    ∷ byte_token p.green
    ∷ [])

-- a pointer as one number, by which two are told apart
unfoldable pub pointer_code : Pointer → ℕ
pointer_code p = (((p.address * 2 + cond p.reading 1 0) * 256 + p.next) * 256 + p.red) * 256 + p.green

unfoldable pub pointer_line : Case → Line
pointer_line c =
    part_line c.number c.reach.pointer (phrase (say "pointer " ∷ [])) (pointer_words c.before.state.pointer) (pointer_words c.after.state.pointer)
    (not (eqb (pointer_code c.before.state.pointer) (pointer_code c.after.state.pointer)))

-- 02, 1/13: direction and colour of the last pixel data access
unfoldable pub marks_words : ℕ → List Token
marks_words marks = phrase (cond (eqb (marks / 4) 1) (say "read ") (say "write ") ∷ colour_word (marks % 4) ∷ [])

unfoldable pub marks_line : Case → Line
marks_line c =
    part_line c.number c.reach.marks (phrase (say "marks " ∷ [])) (marks_words c.before.state.marks) (marks_words c.after.state.marks)
    (not (eqb c.before.state.marks c.after.state.marks))

-- 02, 10/13: the line that the display is at
unfoldable pub beam_line : Case → Line
beam_line c =
    part_line c.number c.reach.line (phrase (say "line " ∷ [])) (phrase (decimal_token c.before.state.line ∷ []))
    (phrase (decimal_token c.after.state.line ∷ [])) (not (eqb c.before.state.line c.after.state.line))

-- an entry of the palette or the bank, its three bytes in one number
unfoldable pub colour_code : Colour → ℕ
colour_code k = (k.red * 256 + k.green) * 256 + k.blue

unfoldable pub entry_in : File → Reach → Colour
entry_in f reach = cond reach.bank (get_or f.bank reach.entry black) (get_or f.palette reach.entry black)

unfoldable pub entry_line : Case → Line
entry_line c =
    part_line c.number (c.reach.palette || c.reach.bank)
    (phrase (cond c.reach.bank (say "bank entry ") (say "palette entry ") ∷ hex_token 2 (c.reach.entry % 256) ∷ say " " ∷ []))
    (phrase (hex_token 6 (colour_code (entry_in c.before c.reach)) ∷ [])) (phrase (hex_token 6 (colour_code (entry_in c.after c.reach)) ∷ []))
    (not (eqb (colour_code (entry_in c.before c.reach)) (colour_code (entry_in c.after c.reach))))

-- 'every timing number that has a bit in that reach, with its value before and after where it moved'
unfoldable pub number_line : Case → ℕ → Line
number_line c k =
    part_line c.number (may_move (wide c.before) c.reach k) (number_label k) (phrase (decimal_token (get_or c.old k 0) ∷ []))
    (phrase (decimal_token (get_or c.new k 0) ∷ [])) (not (eqb (get_or c.old k 0) (get_or c.new k 0)))

-- ---- all of them

-- how many lines there may be
abbrev pub line_count : ℕ
line_count = 21

unfoldable pub line_at : Case → ℕ → Line
line_at c k =
    cond (eqb k 0) (first_line c)
    (cond (eqb k 1) (toggle_line c)
    (cond (eqb k 2) (pointer_line c)
    (cond (eqb k 3) (marks_line c) (cond (eqb k 4) (entry_line c) (cond (eqb k 5) (beam_line c) (number_line c (k - 6)))))))

-- the explanation of a record: its number, the file before it, and what stands in the trace
unfoldable pub explained : ℕ → File → Item → List ℕ
explained number f item = lines_of (line_at (case_of number f item)) 0 line_count

-- the most bytes that the lines of a record have: 21 of 160
abbrev pub record_most : ℕ
record_most = 3360

-- 01, the table of codes: 11 where there are fewer bytes from a place of the buffer on
unfoldable pub record_answer : List ℕ → ℕ → Answer
unfolding most_answer
record_answer buffer at = most_answer record_most buffer at
