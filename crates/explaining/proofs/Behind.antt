-- Text behind what stands in a line. Assumes nothing.
use Prim.Native.Nat.{ℕ, suc, ◌+◌, ◌≤◌, ◌<◌}
use mathlib.Core.List.{List, [], ◌∷◌, ◌++◌}
use mathlib.Core.Path.{◌≡◌, refl, ap, ◌∙◌}
use native.Mathlib.Numerals.{add-one}
use borrow.Author.Tests.{eq-eqb, ne_eqb, ltb-true, ltb-false}
use lib.Dec.{ltb}
use lib.ListN.{get_or, length, drop, replicate, drop_of_length-le, get_or-eq_default}
use lib.Seq.{drop-cons}
use Rattle.bits.proofs.Test.{by-test}
use Rattle.explaining.specs.declared.token.Token.{Token}
use Rattle.text.specs.Fixed.{behind, byte_behind}
use Rattle.explaining.specs.Lines.{Line, token_text, tokens_text, up_to_dot}

-- one text behind another
pub behind-append : (l : Line) (a b : List ℕ) → behind (behind l a) b ≡ behind l (a ++ b)
unfolding behind
behind-append l [] b = refl
behind-append l (x ∷ a) b = behind-append (byte_behind l x) a b

pub then-behind : (l : Line) {m n : Line} (a b : List ℕ) → m ≡ behind l a → n ≡ behind m b → n ≡ behind l (a ++ b)
then-behind l a b e f = f ∙ ap (λ (k : Line). behind k b) e ∙ behind-append l a b

-- where a text shows a byte, it has not ended
pub some_byte : (text : List ℕ) (i : ℕ) → (get_or text i 0 ≡ 0 → ⊥) → i < length text
some_byte text i n =
    by-test (ltb i (length text)) (λ e. ltb-true i (length text) e)
    (λ e. absurd (n (get_or-eq_default text 0 {n = i} (ltb-false i (length text) e))))

-- words: a dot ends them
pub at-dot : (l : Line) (text : List ℕ) (i : ℕ) → i < length text → get_or text i 0 ≡ 0x2E → behind l (up_to_dot (drop i text)) ≡ l
unfolding behind up_to_dot
at-dot l text i h e = rw (drop-cons text i 0 h, eq-eqb (get_or text i 0) 0x2E e)

pub no-dot : (l : Line) (text : List ℕ) (i : ℕ) → i < length text → (get_or text i 0 ≡ 0x2E → ⊥)
    → behind (byte_behind l (get_or text i 0)) (up_to_dot (drop (i + 1) text)) ≡ behind l (up_to_dot (drop i text))
unfolding behind up_to_dot
no-dot l text i h n = rw (drop-cons text i 0 h, add-one, ne_eqb (get_or text i 0) 0x2E n)

pub no_words : (l : Line) (text : List ℕ) (i : ℕ) → length text ≤ i → behind l (up_to_dot (drop i text)) ≡ l
unfolding behind up_to_dot
no_words l text i h = rw (drop_of_length-le text h)

-- spaces
pub next-space : (l : Line) (k : ℕ) → behind (byte_behind l 0x20) (replicate k 0x20) ≡ behind l (replicate (suc k) 0x20)
unfolding behind
next-space l k = refl

-- tokens, one after the other
pub next-token : (l : Line) (tokens : List Token) (i : ℕ) (d : Token) → i < length tokens
    → behind (behind l (token_text (get_or tokens i d))) (tokens_text (drop (i + 1) tokens)) ≡ behind l (tokens_text (drop i tokens))
unfolding tokens_text
next-token l tokens i d h =
    behind-append l (token_text (get_or tokens i d)) (tokens_text (drop (i + 1) tokens))
    ∙ rw (drop-cons tokens i d h, add-one)

pub no-token : (l : Line) (tokens : List Token) (i : ℕ) → length tokens ≤ i → behind l (tokens_text (drop i tokens)) ≡ l
unfolding behind tokens_text
no-token l tokens i h = rw (drop_of_length-le tokens h)
