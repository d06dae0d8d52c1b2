-- Exact in what it claims: a timing number with no bit in the reach of an access to a sound file reads the same after it. Assumes nothing.
use Prim.Native.Nat.{ℕ, zero, suc, ◌+◌, ◌<◌}
use mathlib.Core.Bool.{Bool, true, false, cond, true≢false, ◌||◌}
use mathlib.Core.List.{List, [], ◌∷◌, ◌++◌}
use mathlib.Core.Path.{◌≡◌, refl, sym, ap, ap₂, ◌∙◌}
use native.Mathlib.Omega.{arith}
use borrow.Author.Tests.{eqb-true, not-false}
use lib.Bits.{bit_and}
use lib.Dec.{T, eqb}
use lib.ListN.{get_or}
use Rattle.bits.specs.Numbers.{Meaning, plus, end_of_last, Number, end_after, meant, read_from, read_numbers}
use Rattle.bits.specs.Pieces.{Piece, width, gather, piece_reach}
use Rattle.bits.specs.Reach.{pieces_reach}
use Rattle.bits.specs.Store.{bit}
use Rattle.bits.proofs.Bit.{bit-and, bit-lt, bit-of-zero}
use Rattle.bits.proofs.Split.{gather-same, reach-append}
use Rattle.bits.proofs.Test.{by-test, is_true}
use Rattle.file.specs.declared.registers.File.{File}
use Rattle.file.specs.File.{register}
use Rattle.file.specs.Names.{CR1B}
use Rattle.file.specs.Sound.{sound}
use Rattle.timing.specs.Table.{table, wide}
use Rattle.timing.specs.Timing.{numbers_of, read_timing, timing_in, timing_of}
use Rattle.access.specs.declared.record.Record.{Record}
use Rattle.access.specs.Access.{access, reach}
use Rattle.access.proofs.Reach.{outside-reach}
use Rattle.access.proofs.Soundness.{access-sound}
use Rattle.explaining.specs.Moves.{may_move, number_count, numbers_in, origin, read_bits, source, sources, start_of, switch, switched}

-- where a reach has none of some bits, it spares each of them
spared : (bits theirs i : ℕ) → bit_and bits theirs ≡ 0 → bit i theirs ≡ 1 → bit i bits ≡ 0
spared bits theirs i z e = omega (arith, bit-and i bits theirs, ap (bit i) z ∙ bit-of-zero i, e)

module _ (a b : List ℕ) where
  -- two files' registers agree where pieces lie
  abbrev Agree : List Piece → Type 0
  Agree ps = (r i : ℕ) → bit i (pieces_reach ps r) ≡ 1 → bit i (get_or a r 0) ≡ bit i (get_or b r 0)

  agree_left : (ps qs : List Piece) → Agree (ps ++ qs) → Agree ps
  agree_left ps qs h r i e = h r i (omega (arith, reach-append ps qs r i, bit-lt i (pieces_reach qs r), e))

  agree_right : (ps qs : List Piece) → Agree (ps ++ qs) → Agree qs
  agree_right ps qs h r i e = h r i (omega (arith, reach-append ps qs r i, bit-lt i (pieces_reach ps r), e))

  -- one number, after the one before it
  one : (ps : List Piece) (m : Meaning) (last : List Piece) (x y : ℕ) → (Agree last → x ≡ y) → Agree (ps ++ start_of m last)
      → meant m (width ps) x (gather a ps) ≡ meant m (width ps) y (gather b ps)
  unfolding meant start_of
  one ps (plus k) last x y h g = ap (λ (v : ℕ). v + k) (gather-same ps a b (agree_left ps [] g))
  one ps end_of_last last x y h g =
      ap₂ (λ (l v : ℕ). end_after l (width ps) v) (h (agree_right ps last g)) (gather-same ps a b (agree_left ps last g))

  -- each number of a table
  reads : (numbers : List Number) (last : List Piece) (x y k : ℕ) → (Agree last → x ≡ y) → Agree (get_or (sources last numbers) k [])
      → get_or (read_from x numbers a) k 0 ≡ get_or (read_from y numbers b) k 0
  unfolding sources read_from
  reads [] last x y k h g = refl
  reads (n ∷ ns) last x y zero h g = one n.pieces n.meaning last x y h g
  reads (n ∷ ns) last x y (suc k) h g =
      reads ns (n.pieces ++ start_of n.meaning last) (meant n.meaning (width n.pieces) x (gather a n.pieces))
      (meant n.meaning (width n.pieces) y (gather b n.pieces)) k (λ g'. one n.pieces n.meaning last x y h g') g

-- a number that the switch plays no part in is read alike from a wide file and from a narrow one
unswitched : (registers : List ℕ) (k : ℕ) → switched k ≡ false → get_or (read_from 0 (table true) registers) k 0 ≡ get_or (read_from 0 (table false) registers) k 0
unfolding switched source sources start_of width table read_from meant
unswitched registers zero e = refl
unswitched registers (suc zero) e = refl
unswitched registers (suc (suc zero)) e = refl
unswitched registers (suc (suc (suc zero))) e = absurd (true≢false e)
unswitched registers (suc (suc (suc (suc zero)))) e = refl
unswitched registers (suc (suc (suc (suc (suc zero))))) e = refl
unswitched registers (suc (suc (suc (suc (suc (suc zero)))))) e = refl
unswitched registers (suc (suc (suc (suc (suc (suc (suc zero))))))) e = refl
unswitched registers (suc (suc (suc (suc (suc (suc (suc (suc zero)))))))) e = refl
unswitched registers (suc (suc (suc (suc (suc (suc (suc (suc (suc zero))))))))) e = absurd (true≢false e)
unswitched registers (suc (suc (suc (suc (suc (suc (suc (suc (suc (suc zero)))))))))) e = refl
unswitched registers (suc (suc (suc (suc (suc (suc (suc (suc (suc (suc (suc zero))))))))))) e = refl
unswitched registers (suc (suc (suc (suc (suc (suc (suc (suc (suc (suc (suc (suc zero)))))))))))) e = refl
unswitched registers (suc (suc (suc (suc (suc (suc (suc (suc (suc (suc (suc (suc (suc zero))))))))))))) e = refl
unswitched registers (suc (suc (suc (suc (suc (suc (suc (suc (suc (suc (suc (suc (suc (suc zero)))))))))))))) e = refl
unswitched registers (suc (suc (suc (suc (suc (suc (suc (suc (suc (suc (suc (suc (suc (suc (suc k))))))))))))))) e = refl

either_way : (registers : List ℕ) (k : ℕ) → switched k ≡ false → (w v : Bool)
    → get_or (read_from 0 (table w) registers) k 0 ≡ get_or (read_from 0 (table v) registers) k 0
either_way registers k e true true = refl
either_way registers k e true false = unswitched registers k e
either_way registers k e false true = sym (unswitched registers k e)
either_way registers k e false false = refl

-- the numbers of a sound file are those of its table
number_of : (n : List ℕ) (k : ℕ) → k < number_count → get_or (numbers_of (timing_of n)) k 0 ≡ get_or n k 0
unfolding numbers_of timing_of
number_of n zero h = refl
number_of n (suc zero) h = refl
number_of n (suc (suc zero)) h = refl
number_of n (suc (suc (suc zero))) h = refl
number_of n (suc (suc (suc (suc zero)))) h = refl
number_of n (suc (suc (suc (suc (suc zero))))) h = refl
number_of n (suc (suc (suc (suc (suc (suc zero)))))) h = refl
number_of n (suc (suc (suc (suc (suc (suc (suc zero))))))) h = refl
number_of n (suc (suc (suc (suc (suc (suc (suc (suc zero)))))))) h = refl
number_of n (suc (suc (suc (suc (suc (suc (suc (suc (suc zero))))))))) h = refl
number_of n (suc (suc (suc (suc (suc (suc (suc (suc (suc (suc zero)))))))))) h = refl
number_of n (suc (suc (suc (suc (suc (suc (suc (suc (suc (suc (suc zero))))))))))) h = refl
number_of n (suc (suc (suc (suc (suc (suc (suc (suc (suc (suc (suc (suc zero)))))))))))) h = refl
number_of n (suc (suc (suc (suc (suc (suc (suc (suc (suc (suc (suc (suc (suc zero))))))))))))) h = refl
number_of n (suc (suc (suc (suc (suc (suc (suc (suc (suc (suc (suc (suc (suc (suc zero)))))))))))))) h = refl
number_of n (suc (suc (suc (suc (suc (suc (suc (suc (suc (suc (suc (suc (suc (suc (suc k))))))))))))))) h = absurd (omega arith)

-- a number of a sound file, by the table
pub number_in : (f : File) → T (sound f) → (k : ℕ) → k < number_count → get_or (numbers_in f) k 0 ≡ get_or (read_from 0 (table (wide f)) f.registers) k 0
unfolding numbers_in read_timing timing_in read_numbers
number_in f s k h = rw (is_true (sound f) s) (number_of (read_from 0 (table (wide f)) f.registers) k h)

module _ (f : File) (r : Record) (s : T (sound f)) (k : ℕ) (small : k < number_count) (still : may_move (wide f) (reach f r) k ≡ false) where
  abbrev After : File
  After = (access f r).file

  -- the reach has no bit that the number is read from
  apart : bit_and (reach f r).bits (pieces_reach (origin (wide f) k) (reach f r).register) ≡ 0
  unfolding may_move read_bits
  apart = eqb-true (bit_and (reach f r).bits (pieces_reach (origin (wide f) k) (reach f r).register)) 0 (not-false _ still)

  agrees : Agree After.registers f.registers (origin (wide f) k)
  unfolding register
  agrees number i e =
      (outside-reach f r).registers number i
      (λ q. spared (reach f r).bits (pieces_reach (origin (wide f) k) number) i
      (ap (λ (n : ℕ). bit_and (reach f r).bits (pieces_reach (origin (wide f) k) n)) q ∙ apart) e)

  from-source : Agree After.registers f.registers (source (wide f) k)
  unfolding origin
  from-source = agree_left After.registers f.registers (source (wide f) k) (cond (switched k) switch []) agrees

  same_width : switched k ≡ true → wide After ≡ wide f
  unfolding origin wide register pieces_reach piece_reach bit
  same_width e =
      let both : Agree After.registers f.registers switch =
      agree_right After.registers f.registers (source (wide f) k) switch (rw e at agrees) in
      ap₂ (λ (x y : ℕ). eqb x 1 || eqb y 1) (both CR1B 5 refl) (both CR1B 7 refl)

  -- the number after the access, by the table of the file before it
  by-table : get_or (read_from 0 (table (wide After)) After.registers) k 0 ≡ get_or (read_from 0 (table (wide f)) After.registers) k 0
  by-table =
      by-test (switched k) (λ e. ap (λ (w : Bool). get_or (read_from 0 (table w) After.registers) k 0) (same_width e))
      (λ e. either_way After.registers k e (wide After) (wide f))

  -- 'the numbers listed as may move are all that can'
  pub unmoved : get_or (numbers_in After) k 0 ≡ get_or (numbers_in f) k 0
  unfolding source
  unmoved =
      number_in After (access-sound f s r) k small
      ∙ by-table
      ∙ reads After.registers f.registers (table (wide f)) [] 0 0 k (λ g. refl) from-source
      ∙ sym (number_in f s k small)
