-- 02, 11/13: the set after an access, a run, a timing write and a modeline: the set before, and what was reached.
-- Assumes nothing.
use Rattle.std.specs.Prelude.{ℕ, Bool, false, cond, List, [], ◌∷◌, map, ◌≡◌, eqb}
use Rattle.bits.specs.Pieces.{Piece, piece_reach}
use Rattle.bits.specs.Reach.{pieces_of}
use Rattle.file.specs.declared.effect.Effect.TheVariants.{Nothing, Store}
use Rattle.file.specs.declared.effect.Reach.{Reach}
use Rattle.file.specs.declared.registers.File.{File}
use Rattle.file.specs.Answers.{refused}
use Rattle.file.specs.Effects.{reach_of}
use Rattle.file.specs.Names.{MISC}
use Rattle.access.specs.declared.record.Item.{Item}
use Rattle.access.specs.declared.record.Item.TheVariants.{Whole, Fragment}
use Rattle.access.specs.declared.record.Record.{Record}
use Rattle.access.specs.Access.{access, access_item, reach}
use Rattle.trace.specs.Records.{items}
use Rattle.trace.specs.Run.{run, RunKept}
use Rattle.timing.specs.declared.Timing.{Timing}
use Rattle.timing.specs.Table.{table, wide}
use Rattle.timing.specs.Timing.{timing_answer, write_timing}
use Rattle.mode_file.specs.Into.{ReadInto}
use Rattle.mode_file.specs.Said.{flag_reach}
use Rattle.mode_file.specs.Verdicts.{code_said}
use Rattle.touched.specs.declared.set.Touched.{Touched}
use Rattle.noting.specs.declared.kept.Noted.{Noted}
use Rattle.access.specs.declared.access.Accessed.{Accessed}
use Rattle.trace.specs.declared.running.Ran.{Ran}
use Rattle.timing.specs.declared.Written.{Written}
use Rattle.mode_file.specs.declared.into.ReadLine.{ReadLine}
use Rattle.touched.specs.Noted.{noted, noted_all}

-- ---- accesses

-- an access: what it does without the set, and the set with what it reached. A refusal's effect is nothing, so it reaches nothing
unfoldable pub access_noting : Touched → File → Record → Noted Accessed
access_noting s f r = record { done = access f r; touched = noted (reach f r) s }

-- a fragment is refused
unfoldable pub item_reach : File → Item → Reach
item_reach f (Whole r) = reach f r
item_reach f (Fragment r) = reach_of Nothing

-- what each item of a list reaches, each in the file that those before it leave
unfoldable pub run_reaches : File → List Item → List Reach
run_reaches f [] = []
run_reaches f (i ∷ is) = item_reach f i ∷ run_reaches (access_item f i).file is

-- a run: what it does without the set, and the set with what the items reached that it counts; of an unsound file it counts none
pub record RunNotedKept (s : Touched) (f : File) (trace before after : List ℕ) (r : Noted Ran) : Type 0 where
  pub done : RunKept f trace before after r.done
  pub noted : r.touched ≡ noted_all (run_reaches f (items (run f trace before).count trace)) s

-- ---- timing and modelines

-- a store reaches the same whatever its value is
unfoldable pub store_reach : ℕ → ℕ → Reach
store_reach number bits = reach_of (Store false number bits 0)

-- the pieces of 01's table of timing numbers: CR1A's are among them if the file is wide
unfoldable pub timing_reaches : Bool → List Reach
timing_reaches is_wide = map (λ (p : Piece). store_reach p.register (piece_reach p)) (pieces_of (table is_wide))

-- a timing write that is refused stores nothing
unfoldable pub timing_noting : Touched → File → Timing → Noted Written
timing_noting s f t =
    record { done = write_timing f t; touched = cond (refused (timing_answer f t)) s (noted_all (timing_reaches (wide f)) s) }

-- a modeline that is read stores MISC[7:6] and the timing
unfoldable pub line_reaches : Bool → List Reach
line_reaches is_wide = store_reach MISC flag_reach ∷ timing_reaches is_wide

pub record LineNotedKept (s : Touched) (line : List ℕ) (f : File) (r : Noted ReadLine) : Type 0 where
  pub read : ReadInto line f r.done
  pub noted : r.touched ≡ cond (eqb (code_said r.done.said) 0) (noted_all (line_reaches (wide f)) s) s
