-- However a text, or an input, is cut into parts, the bytes that are put are those of the whole. Assumes nothing.
use Prim.Native.Nat.{ℕ}
use mathlib.Core.Bool.{true}
use mathlib.Core.List.{List, [], ◌∷◌, ◌++◌, append_assoc}
use mathlib.Core.Path.{◌≡◌, refl, sym, ap, ◌∙◌}
use lib.Dec.{T}
use Rattle.feeding.specs.Feeding.{Additive, Parts}
use Rattle.feeding.proofs.AsTheWhole.{parts-after, parts-told}
use Rattle.hex_text.specs.declared.state.HexText.{HexText}
use Rattle.hex_text.specs.declared.source.Source.{Source}
use Rattle.hex_text.specs.declared.source.Source.TheVariants.{Bytes, Text}
use Rattle.hex_text.specs.Machine.{after, told, stepped, given_by}
use Rattle.hex_text.specs.Source.{source_after, source_told}

-- every cut of a text is between whole bytes
abbrev pub Any : List ℕ → Type 0
Any bytes = T true

pub after-parts : (s : HexText) (a b : List ℕ) → after s (a ++ b) ≡ after (after s a) b
unfolding after
after-parts s [] b = refl
after-parts s (x ∷ a) b = after-parts (stepped s x) a b

pub told-parts : (s : HexText) (a b : List ℕ) → told s (a ++ b) ≡ told s a ++ told (after s a) b
unfolding told after
told-parts s [] b = refl
told-parts s (x ∷ a) b =
    ap (λ (xs : List ℕ). given_by s.stand x ++ xs) (told-parts (stepped s x) a b)
    ∙ sym (append_assoc (given_by s.stand x) (told (stepped s x) a) (told (after (stepped s x) a) b))

pub text-additive : Additive Any after told
unfolding after told
text-additive =
    record {
      whole-none = tt;
      whole_parts = λ a b p q. tt;
      after_none = λ s. refl;
      told_none = λ s. refl;
      after-parts = λ s a b p. after-parts s a b;
      told-parts = λ s a b p. told-parts s a b;
    }

-- ---- an input

source-after-parts : (s : Source) (a b : List ℕ) → source_after s (a ++ b) ≡ source_after (source_after s a) b
unfolding source_after
source-after-parts Bytes a b = refl
source-after-parts (Text text) a b = ap Text (after-parts text a b)

source-told-parts : (s : Source) (a b : List ℕ) → source_told s (a ++ b) ≡ source_told s a ++ source_told (source_after s a) b
unfolding source_after source_told
source-told-parts Bytes a b = refl
source-told-parts (Text text) a b = told-parts text a b

source-after-none : (s : Source) → source_after s [] ≡ s
unfolding source_after after
source-after-none Bytes = refl
source-after-none (Text text) = refl

source-told-none : (s : Source) → source_told s [] ≡ []
unfolding source_told told
source-told-none Bytes = refl
source-told-none (Text text) = refl

pub source-additive : Additive Any source_after source_told
source-additive =
    record {
      whole-none = tt;
      whole_parts = λ a b p q. tt;
      after_none = source-after-none;
      told_none = source-told-none;
      after-parts = λ s a b p. source-after-parts s a b;
      told-parts = λ s a b p. source-told-parts s a b;
    }

-- an input in parts, however it is cut: what is put of them is what is put of the whole, and the input is the one after the whole
pub source-parts : {begun : Source} {bytes put : List ℕ} {s : Source} → Parts Any source_after source_told begun bytes put s
    → (put ≡ source_told begun bytes) × (s ≡ source_after begun bytes)
source-parts parts = (parts-told source-additive parts, parts-after source-additive parts)
