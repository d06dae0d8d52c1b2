-- Each reader of `Scan` is right for the form that it reads, from the flags at the end up to the whole line. Assumes nothing.
use Prim.Native.Nat.{ℕ, zero, suc, ◌+◌, ◌-◌, ◌*◌, ◌^◌, ◌<◌}
use mathlib.Core.Bool.{Bool, true, false, cond, not, true≢false, ◌&&◌}
use mathlib.Core.List.{List, [], ◌∷◌, ◌++◌}
use mathlib.Core.Logic.{inl, ⊎_elim}
use mathlib.Core.Path.{◌≡◌, refl, sym, ◌∙◌, subst}
use native.Mathlib.Omega.{arith}
use borrow.Author.Tests.{ltb-true, ltb-false, eqb-false, le-ltb, eq-eqb}
use lib.Dec.{T, eqb, leb, ltb, ltb→lt, lt→ltb, eqb→eq, not_T, T_not}
use Rattle.bits.proofs.Test.{by-test, left, right, both, passes, is_true}
use Rattle.modes.specs.declared.mode.Mode.{Mode}
use Rattle.modes.specs.Form.{Axis, Horizontal, Vertical, name_byte, digit, header, letter}
use Rattle.modes.specs.Scan.{Outcome, lit, pick, Runner, name_runner, Digits, spell, digit_runner, decimal_runner, passing, read_token, unflagged, flagged, sync, read_other, read_axis, read_flags, read_numbers, read_decimals, read_behind, read_clock, read_name, read_line}
use Rattle.modes.proofs.Readers.{Form, Right, Live, recast, EndL, right_end, MayEndL, right-may-end, LitL, live-lit, right-lit, PickL, right-pick, walks, after, RunL, Ending, reads, wants, right-run}

-- a state's form, where the state passes
abbrev pub PassL : {Q : Type 0} → (Q → Bool) → (Q → Form) → Q → Form
PassL test K q s o = T (test q) × K q s o

module _ {Q : Type 0} (r : Runner Q) (test : Q → Bool) (K : Q → Form) (k : Q → List ℕ → Outcome) where
  pub ending-by : (q : Q) → (test q ≡ true → Right (k q) (K q)) → (test q ≡ false → Live (RunL r (PassL test K) q))
      → Ending r (PassL test K) (passing test k) q
  unfolding passing
  ending-by q h live =
      by-test (test q)
      (λ e. reads (λ s. rw e (recast (PassL test K q) (K q) (λ t o x. (passes (test q) e, x)) (λ t o x. x.1) (k q s) s (h e s))))
      (λ e. wants (λ s o x. subst (λ (b : Bool). T b) e x.0) (λ s. rw e) (live e))

-- a flag, or none
abbrev pub OtherL : Axis → Mode → Form
OtherL axis m =
    MayEndL m
    (LitL (0x20 ∷ [])
    (PickL 0x2B 0x2D (LitL (letter axis ∷ sync) (EndL (flagged axis false m))) (LitL (letter axis ∷ sync) (EndL (flagged axis true m)))))

live_end : (m : Mode) → Live (EndL m)
live_end m = record { text = []; mode = m; good = (refl, refl) }

live-may : (m : Mode) (K : Form) → Live (MayEndL m K)
live-may m K = record { text = []; mode = m; good = inl (refl, refl) }

live-first : (c d : ℕ) (K M : Form) → Live K → Live (PickL c d K M)
live-first c d K M live = record { text = c ∷ live.text; mode = live.mode; good = inl (record { rest = live.text; text = refl; then = live.good }) }

-- a form of some bytes has no empty line
some : (c : ℕ) (w : List ℕ) (K : Form) (o : Mode) → LitL (c ∷ w) K [] o → ⊥
some c w K o x = let z : ◌≡◌ {A = ℕ} 0 1 = cc x.text in omega arith

right-other : (axis : Axis) (m : Mode) → Right (read_other axis m) (OtherL axis m)
unfolding read_other
right-other axis m =
    right-may-end m _ _ (some 0x20 [] _)
    (right-lit _ _ (live-first 0x2B 0x2D _ _ (live-lit (letter axis ∷ sync) _ (live_end (flagged axis false m))))
    (right-pick 0x2B 0x2D _ _ _ _ (λ e. omega (arith, e)) (live-lit (letter axis ∷ sync) _ (live_end (flagged axis false m)))
    (right-lit _ _ (live_end (flagged axis false m)) (right_end (flagged axis false m)) (letter axis ∷ sync))
    (right-lit _ _ (live_end (flagged axis true m)) (right_end (flagged axis true m)) (letter axis ∷ sync))) (0x20 ∷ []))

-- the axis of a first flag, and then
abbrev pub AxisL : Mode → Bool → Form
AxisL m minus =
    PickL 0x68 0x76 (LitL sync (OtherL Vertical (flagged Horizontal minus m))) (LitL sync (OtherL Horizontal (flagged Vertical minus m)))

live-axis : (m : Mode) (minus : Bool) → Live (AxisL m minus)
live-axis m minus = live-first 0x68 0x76 _ _ (live-lit sync _ (live-may (flagged Horizontal minus m) _))

right-axis : (m : Mode) (minus : Bool) → Right (read_axis m minus) (AxisL m minus)
unfolding read_axis
right-axis m minus =
    right-pick 0x68 0x76 _ _ _ _ (λ e. omega (arith, e)) (live-lit sync _ (live-may (flagged Horizontal minus m) _))
    (right-lit _ _ (live-may (flagged Horizontal minus m) _) (right-other Vertical (flagged Horizontal minus m)) sync)
    (right-lit _ _ (live-may (flagged Vertical minus m) _) (right-other Horizontal (flagged Vertical minus m)) sync)

abbrev pub FlagsL : Mode → Form
FlagsL m = MayEndL m (LitL (0x20 ∷ []) (PickL 0x2B 0x2D (AxisL m false) (AxisL m true)))

right-flags : (m : Mode) → Right (read_flags m) (FlagsL m)
unfolding read_flags
right-flags m =
    right-may-end m _ _ (some 0x20 [] _)
    (right-lit _ _ (live-first 0x2B 0x2D _ _ (live-axis m false))
    (right-pick 0x2B 0x2D _ _ _ _ (λ e. omega (arith, e)) (live-axis m false) (right-axis m false) (right-axis m true)) (0x20 ∷ []))

-- no line of the form goes on with a digit
abbrev pub Apart : Form → Type 0
Apart K = (b : ℕ) (s : List ℕ) (o : Mode) → K (b ∷ s) o → T (digit b) → ⊥

not_digit : (b c : ℕ) → T (digit b) → b ≡ c → digit c ≡ false → ⊥
not_digit b c t e n = subst (λ (x : Bool). T x) n (subst (λ (x : ℕ). T (digit x)) e t)

apart-lit : (c : ℕ) (w : List ℕ) (K : Form) → digit c ≡ false → Apart (LitL (c ∷ w) K)
apart-lit c w K n b s o x t = not_digit b c t (cc x.text) n

apart-may : (m : Mode) (K : Form) → Apart K → Apart (MayEndL m K)
apart-may m K h b s o x t =
    ⊎_elim (λ e. let z : ◌≡◌ {A = ℕ} 0 1 = cc e.0 in omega arith) (λ y. h b s o y t) x

apart-pick : (c d : ℕ) (K M : Form) → digit c ≡ false → digit d ≡ false → Apart (PickL c d K M)
apart-pick c d K M m n b s o x t = ⊎_elim (λ y. apart-lit c [] K m b s o y t) (λ y. apart-lit d [] M n b s o y t) x

-- 0, or a number below another
pub zero_or : (b : Bool) (n most : ℕ) → 0 < most → n < most → cond b 0 n < most
zero_or true n most s h = s
zero_or false n most s h = h

-- a number of so many digits at most, and then
abbrev pub TokenL : ℕ → (ℕ → Form) → Form
TokenL most K = RunL digit_runner (PassL (λ q. ltb q.left most) (λ q. K q.value)) (record { left = most; value = 0 })

module _ (most : ℕ) (K : ℕ → Form) (some_more : 0 < most) (live : (v : ℕ) → Live (K v)) where
  -- a digit more is enough where none was read
  live-digit : (q : Digits) → q.left < suc most → ltb q.left most ≡ false
      → Live (RunL digit_runner (PassL (λ q. ltb q.left most) (λ q. K q.value)) q)
  unfolding walks after digit_runner digit spell
  live-digit q h e =
      record {
        text = 0x31 ∷ (live (10 * q.value + 1)).text;
        mode = (live (10 * q.value + 1)).mode;
        good =
            record {
              bytes = 0x31 ∷ [];
              rest = (live (10 * q.value + 1)).text;
              walked = both (ltb 0 q.left) true (lt→ltb 0 q.left (omega (arith, ltb-false q.left most e))) tt;
              text = refl;
              then = (
                lt→ltb _ most (zero_or (eqb (spell q 0x31) 0) (q.left - 1) most some_more (omega (arith, ltb-false q.left most e))),
                (live (10 * q.value + 1)).good,
              );
            };
      }

  live-token : Live (TokenL most K)
  live-token = live-digit (record { left = most; value = 0 }) (omega arith) (le-ltb most most (omega arith))

  module _ (k : ℕ → List ℕ → Outcome) (apart : (v : ℕ) → Apart (K v)) (h : (v : ℕ) → Right (k v) (K v)) where
    pub right-token : Right (read_token most k) (TokenL most K)
    unfolding read_token digit_runner
    right-token =
        right-run digit_runner (PassL (λ q. ltb q.left most) (λ q. K q.value)) (passing (λ q. ltb q.left most) (λ q. k q.value))
        (λ q. q.left < suc most)
        (λ q b ok t. zero_or (eqb (spell q b) 0) (q.left - 1) (suc most) (omega arith) (omega (arith, ok)))
        (λ q b ok t s o x. apart q.value b s o x.1 (left (digit b) (ltb 0 q.left) t))
        (λ q ok. ending-by digit_runner (λ q. ltb q.left most) (λ q. K q.value) (λ q. k q.value) q (λ e. h q.value) (live-digit q ok))
        (record { left = most; value = 0 }) (omega arith)

-- so many numbers more, each behind a space, and then the flags
unfoldable pub NumbersL : ℕ → ℕ → ℕ → List ℕ → Form
NumbersL zero name khz numbers = FlagsL (unflagged name khz numbers)
NumbersL (suc more) name khz numbers = LitL (0x20 ∷ []) (TokenL 5 (λ n. NumbersL more name khz (numbers ++ n ∷ [])))

live-numbers : (more name khz : ℕ) (numbers : List ℕ) → Live (NumbersL more name khz numbers)
unfolding NumbersL
live-numbers zero name khz numbers = live-may (unflagged name khz numbers) _
live-numbers (suc more) name khz numbers =
    live-lit (0x20 ∷ []) _ (live-token 5 _ (omega arith) (λ n. live-numbers more name khz (numbers ++ n ∷ [])))

apart-numbers : (more name khz : ℕ) (numbers : List ℕ) → Apart (NumbersL more name khz numbers)
unfolding NumbersL digit
apart-numbers zero name khz numbers =
    apart-may (unflagged name khz numbers) (LitL (0x20 ∷ []) (PickL 0x2B 0x2D (AxisL (unflagged name khz numbers) false) (AxisL (unflagged name khz numbers) true)))
    (apart-lit 0x20 [] (PickL 0x2B 0x2D (AxisL (unflagged name khz numbers) false) (AxisL (unflagged name khz numbers) true)) refl)
apart-numbers (suc more) name khz numbers = apart-lit 0x20 [] (TokenL 5 (λ n. NumbersL more name khz (numbers ++ n ∷ []))) refl

right-numbers : (more name khz : ℕ) (numbers : List ℕ) → Right (read_numbers more name khz numbers) (NumbersL more name khz numbers)
unfolding read_numbers NumbersL
right-numbers zero name khz numbers = right-flags (unflagged name khz numbers)
right-numbers (suc more) name khz numbers =
    right-lit _ _ (live-token 5 _ (omega arith) (λ n. live-numbers more name khz (numbers ++ n ∷ [])))
    (right-token 5 _ (omega arith) (λ n. live-numbers more name khz (numbers ++ n ∷ [])) _
    (λ n. apart-numbers more name khz (numbers ++ n ∷ [])) (λ n. right-numbers more name khz (numbers ++ n ∷ [])))
    (0x20 ∷ [])

-- decimals behind so many whole MHz, and then the numbers
abbrev pub enough : Digits → Bool
enough q = ltb q.left 3 && ltb 0 q.value

abbrev pub BehindDecimals : ℕ → Digits → Form
BehindDecimals name q = NumbersL 8 name (q.value * 10 ^ q.left) []

abbrev pub DecimalsL : ℕ → ℕ → Form
DecimalsL name whole = RunL decimal_runner (PassL enough (BehindDecimals name)) (record { left = 3; value = whole })

-- the clock can still be other than 0
abbrev Open : Digits → Type 0
Open q = (q.left < 4) × (q.left ≡ 0 → 0 < q.value)

open-left : (q : Digits) → Open q → enough q ≡ false → 0 < q.left
open-left q ok e =
    by-test (ltb 0 q.left) (ltb-true 0 q.left)
    (λ n. absurd (true≢false
    (sym (is_true (enough q)
    (both (ltb q.left 3) (ltb 0 q.value) (lt→ltb q.left 3 (omega (arith, ltb-false 0 q.left n)))
    (lt→ltb 0 q.value (ok.1 (omega (arith, ltb-false 0 q.left n)))))) ∙ e)))

live-decimal : (name : ℕ) (q : Digits) → Open q → enough q ≡ false → Live (RunL decimal_runner (PassL enough (BehindDecimals name)) q)
unfolding walks after decimal_runner digit spell
live-decimal name q ok e =
    record {
      text = 0x31 ∷ (live-numbers 8 name ((10 * q.value + 1) * 10 ^ (q.left - 1)) []).text;
      mode = (live-numbers 8 name ((10 * q.value + 1) * 10 ^ (q.left - 1)) []).mode;
      good =
          record {
            bytes = 0x31 ∷ [];
            rest = (live-numbers 8 name ((10 * q.value + 1) * 10 ^ (q.left - 1)) []).text;
            walked =
                both (ltb 0 q.left && not (eqb q.left 1 && eqb (spell q 0x31) 0)) true
                (both (ltb 0 q.left) (not (eqb q.left 1 && eqb (spell q 0x31) 0)) (lt→ltb 0 q.left (open-left q ok e))
                (not_T (eqb q.left 1 && eqb (spell q 0x31) 0)
                (λ t. let z : 10 * q.value + 1 ≡ 0 = eqb→eq _ 0 (right (eqb q.left 1) (eqb (spell q 0x31) 0) t) in omega arith)))
                tt;
            text = refl;
            then = (
              both (ltb (q.left - 1) 3) (ltb 0 (spell q 0x31)) (lt→ltb (q.left - 1) 3 (omega (arith, ok.0, open-left q ok e)))
                  (lt→ltb 0 (10 * q.value + 1) (omega arith)),
              (live-numbers 8 name ((10 * q.value + 1) * 10 ^ (q.left - 1)) []).good,
            );
          };
    }

-- the last digit that is taken leaves a clock that is not 0
open_kept : (q : Digits) (b : ℕ) → Open q → T (decimal_runner.taken q b) → Open (decimal_runner.next q b)
unfolding decimal_runner
open_kept q b ok t = (
  omega (arith, ok.0),
  λ e. by-test (eqb (spell q b) 0)
      (λ z. absurd (T_not (eqb q.left 1 && eqb (spell q b) 0) (right (digit b && ltb 0 q.left) _ t)
      (both (eqb q.left 1) (eqb (spell q b) 0)
      (passes _ (eq-eqb q.left 1 (omega (arith, ltb→lt 0 q.left (right (digit b) (ltb 0 q.left) (left (digit b && ltb 0 q.left) _ t)), e))))
      (passes _ z))))
      (λ n. let m : spell q b ≡ 0 → ⊥ = eqb-false (spell q b) 0 n in omega (arith, m)),
)

right-decimals : (name whole : ℕ) → Right (read_decimals name whole) (DecimalsL name whole)
unfolding read_decimals decimal_runner
right-decimals name whole =
    right-run decimal_runner (PassL enough (BehindDecimals name)) (passing enough (λ q. read_numbers 8 name (q.value * 10 ^ q.left) [])) Open
    open_kept
    (λ q b ok t s o x. apart-numbers 8 name (q.value * 10 ^ q.left) [] b s o x.1
    (left (digit b) (ltb 0 q.left) (left (digit b && ltb 0 q.left) (not (eqb q.left 1 && eqb (spell q b) 0)) t)))
    (λ q ok. ending-by decimal_runner enough (BehindDecimals name) (λ q. read_numbers 8 name (q.value * 10 ^ q.left) []) q
    (λ e. right-numbers 8 name (q.value * 10 ^ q.left) []) (live-decimal name q ok))
    (record { left = 3; value = whole }) (omega arith, λ e. absurd (omega (arith, e)))

live-decimals : (name whole : ℕ) → Live (DecimalsL name whole)
live-decimals name whole =
    live-decimal name (record { left = 3; value = whole }) (omega arith, λ e. absurd (omega (arith, e))) refl

-- the number behind a clock's space, and the others
abbrev pub FirstL : ℕ → ℕ → Form
FirstL name khz = TokenL 5 (λ n. NumbersL 7 name khz (n ∷ []))

live-first-number : (name khz : ℕ) → Live (FirstL name khz)
live-first-number name khz = live-token 5 _ (omega arith) (λ n. live-numbers 7 name khz (n ∷ []))

right-first : (name khz : ℕ) → Right (read_token 5 (λ n. read_numbers 7 name khz (n ∷ []))) (FirstL name khz)
right-first name khz =
    right-token 5 _ (omega arith) (λ n. live-numbers 7 name khz (n ∷ [])) _ (λ n. apart-numbers 7 name khz (n ∷ []))
    (λ n. right-numbers 7 name khz (n ∷ []))

-- what stands behind so many whole MHz
abbrev pub behind_by : Bool → ℕ → ℕ → Form
behind_by true name whole = LitL (0x2E ∷ []) (DecimalsL name whole)
behind_by false name whole = PickL 0x2E 0x20 (DecimalsL name whole) (FirstL name (whole * 1000))

abbrev pub BehindL : ℕ → ℕ → Form
BehindL name whole = behind_by (eqb whole 0) name whole

live-behind : (b : Bool) (name whole : ℕ) → Live (behind_by b name whole)
live-behind true name whole = live-lit (0x2E ∷ []) _ (live-decimals name whole)
live-behind false name whole = live-first 0x2E 0x20 _ _ (live-decimals name whole)

apart-behind : (b : Bool) (name whole : ℕ) → Apart (behind_by b name whole)
unfolding digit
apart-behind true name whole = apart-lit 0x2E [] (DecimalsL name whole) refl
apart-behind false name whole = apart-pick 0x2E 0x20 (DecimalsL name whole) (FirstL name (whole * 1000)) refl refl

right-behind : (b : Bool) (name whole : ℕ)
    → Right (cond b (lit (0x2E ∷ []) (read_decimals name whole)) (pick 0x2E 0x20 (read_decimals name whole) (read_token 5 (λ n. read_numbers 7 name (whole * 1000) (n ∷ [])))))
    (behind_by b name whole)
right-behind true name whole = right-lit _ _ (live-decimals name whole) (right-decimals name whole) (0x2E ∷ [])
right-behind false name whole =
    right-pick 0x2E 0x20 _ _ _ _ (λ e. omega (arith, e)) (live-decimals name whole) (right-decimals name whole) (right-first name (whole * 1000))

abbrev pub ClockL : ℕ → Form
ClockL name = TokenL 3 (BehindL name)

live-clock : (name : ℕ) → Live (ClockL name)
live-clock name = live-token 3 _ (omega arith) (λ v. live-behind (eqb v 0) name v)

right-clock : (name : ℕ) → Right (read_clock name) (ClockL name)
unfolding read_clock read_behind
right-clock name =
    right-token 3 (BehindL name) (omega arith) (λ v. live-behind (eqb v 0) name v) (read_behind name) (λ v. apart-behind (eqb v 0) name v)
    (λ v. right-behind (eqb v 0) name v)

-- the name and its quote, and then
abbrev pub QuoteL : ℕ → Form
QuoteL name = LitL (0x22 ∷ 0x20 ∷ []) (ClockL name)

abbrev pub NameL : Form
NameL = RunL name_runner (PassL (ltb 0) QuoteL) 0

live-name : (c : ℕ) → c < 33 → ltb 0 c ≡ false → Live (RunL name_runner (PassL (ltb 0) QuoteL) c)
unfolding walks after name_runner name_byte
live-name c h e =
    record {
      text = 0x61 ∷ (live-lit (0x22 ∷ 0x20 ∷ []) _ (live-clock (suc c))).text;
      mode = (live-lit (0x22 ∷ 0x20 ∷ []) _ (live-clock (suc c))).mode;
      good =
          record {
            bytes = 0x61 ∷ [];
            rest = (live-lit (0x22 ∷ 0x20 ∷ []) _ (live-clock (suc c))).text;
            walked = both (ltb c 32) true (lt→ltb c 32 (omega (arith, ltb-false 0 c e))) tt;
            text = refl;
            then = (lt→ltb 0 (suc c) (omega arith), (live-lit (0x22 ∷ 0x20 ∷ []) _ (live-clock (suc c))).good);
          };
    }

right-name : Right read_name NameL
unfolding read_name name_runner name_byte
right-name =
    right-run name_runner (PassL (ltb 0) QuoteL) (passing (ltb 0) (λ name. lit (0x22 ∷ 0x20 ∷ []) (read_clock name))) (λ c. c < 33)
    (λ c b ok t. omega (arith, ltb→lt c 32 (right (name_byte b) (ltb c 32) t)))
    (λ c b ok t s o x. T_not (eqb b 0x22) (right (leb 0x20 b && leb b 0x7E) (not (eqb b 0x22)) (left (name_byte b) (ltb c 32) t))
    (passes _ (eq-eqb b 0x22 (cc x.1.text))))
    (λ c ok. ending-by name_runner (ltb 0) QuoteL (λ name. lit (0x22 ∷ 0x20 ∷ []) (read_clock name)) c
    (λ e. right-lit _ _ (live-clock c) (right-clock c) (0x22 ∷ 0x20 ∷ [])) (live-name c ok))
    0 (omega arith)

-- the whole line
abbrev pub LineL : Form
LineL = LitL header NameL

pub right-line : Right read_line LineL
unfolding read_line
right-line = right-lit _ _ (live-name 0 (omega arith) refl) right-name header
