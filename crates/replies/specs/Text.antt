-- The texts of an answer. To be believed.
use Rattle.std.specs.Prelude.{List, [], ◌∷◌, ◌++◌, ℕ}
use Rattle.std.proofs.Math.Option.{none, some}
use Rattle.pattern.specs.Numbers.{comma_byte, BUDGET}
use Rattle.pattern.specs.Bytes.{Bytes, bytes}
use Rattle.pattern.specs.Print.{decimal}
use Rattle.pattern.specs.Answers.{Ending, untried, exhausted, decided}
use Rattle.replies.specs.Sizes.{space_byte, refused_letter, unmatched_letter}

-- a letter, a space and a number
unfoldable pub coded_text : (letter number : ℕ) → Bytes
coded_text letter number = letter ∷ space_byte ∷ decimal number

-- "R number position"
unfoldable pub refused_text : (number position : ℕ) → Bytes
refused_text number position = coded_text refused_letter number ++ space_byte ∷ decimal position

-- "M number"
unfoldable pub unmatched_text : (number : ℕ) → Bytes
unmatched_text number = coded_text unmatched_letter number

-- numbers with this byte before the first and a comma before each other one
unfoldable pub listed : ℕ → List ℕ → Bytes
listed c [] = []
listed c (e ∷ es) = c ∷ decimal e ++ listed comma_byte es

-- "1 and the parts with commas"
unfoldable pub matched_text : List ℕ → Bytes
matched_text ends = bytes "1" ++ listed space_byte ends

-- what is written for a match
unfoldable pub ending_text : Ending → Bytes
ending_text (untried number) = unmatched_text number
ending_text (exhausted used budget) = unmatched_text BUDGET
ending_text (decided used trials none) = bytes "0"
ending_text (decided used trials (some ends)) = matched_text ends
