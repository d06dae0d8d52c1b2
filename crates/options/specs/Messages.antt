-- What is said of wrong words, in one line. In a message a % stands for the command's name, and a @ for the wrong word.
-- Assumes nothing.
use Rattle.std.specs.Prelude.{ℕ, cond, List, [], ◌∷◌, ◌++◌, Option, Some, None, eqb}
use Rattle.file.specs.Readers.{ascii}
use Rattle.text.specs.Text.{newline}
use Rattle.options.specs.declared.types.Command.{Command}
use Rattle.options.specs.declared.types.Refused.{Refused}
use Rattle.options.specs.declared.types.Wrong.{Wrong}
use Rattle.options.specs.declared.types.Wrong.TheVariants.{NoCommand, UnknownCommand, UnknownOption, NoValue}
use Rattle.options.specs.declared.types.Wrong.TheVariants.{NoTwoValues, NoSuchChip, NoSuchEngine, NotWithValue}
use Rattle.options.specs.declared.types.Wrong.TheVariants.{Twice, WideWithOf, NoFile, OneFileMore}
use Rattle.options.specs.declared.types.Wrong.TheVariants.{EmptyName, BothStandardInput, TooManyWords, TooLong}
use Rattle.options.specs.Words.{word_at}
use Rattle.options.specs.Table.{command_name}
use Rattle.options.specs.Lines.{shown}

-- a command's name, if there is a command
unfoldable pub name_of : Option Command → List ℕ
name_of None = []
name_of (Some command) = command_name command

-- what a byte of a message stands for
unfoldable pub piece_of : Refused → List ℕ → ℕ → List ℕ
piece_of refused words b =
    cond (eqb b 0x25) (name_of refused.command) (cond (eqb b 0x40) (shown (word_at words refused.word)) (b ∷ []))

unfoldable pub filled : Refused → List ℕ → List ℕ → List ℕ
filled refused words [] = []
filled refused words (b ∷ bs) = piece_of refused words b ++ filled refused words bs

unfoldable pub message : Wrong → List ℕ
unfolding ascii
message NoCommand = ascii "no command; 'sedgecoil help' lists them"
message UnknownCommand = ascii "no command '@'; 'sedgecoil help' lists them"
message UnknownOption = ascii "% has no option '@'; 'sedgecoil % --help' lists them"
message NoValue = ascii "@ takes a value"
message NoTwoValues = ascii "@ takes two values"
message NoSuchChip = ascii "--chip is 5462 or 5464, not '@'"
message NoSuchEngine = ascii "--engine is quick or plain, not '@'"
message NotWithValue = ascii "@ takes no value after '='"
message Twice = ascii "@ is given twice"
message WideWithOf = ascii "--wide and --of exclude each other"
message NoFile = ascii "% takes one FILE, and there is none"
message OneFileMore = ascii "% takes one FILE, and '@' is one more"
message EmptyName = ascii "the name of a FILE is empty"
message BothStandardInput = ascii "--since and FILE are both standard input"
message TooManyWords = ascii "more than 64 words"
message TooLong = ascii "the words are too long"

-- the program's name, a message, and a newline
unfoldable pub message_by : Refused → List ℕ → List ℕ → List ℕ
unfolding ascii
message_by refused words said = ascii "sedgecoil: " ++ filled refused words said ++ newline

-- the line for what is wrong
unfoldable pub wrong_line : Refused → List ℕ → List ℕ
wrong_line refused words = message_by refused words (message refused.wrong)
