mod ClassTest
mod LetterBits
