-- What the functions of words and lines cite. Assumes nothing.
--     text_of word           the bytes of one word
--     blank_and word         the bytes of a blank and one word
--     blanked words          the bytes of words that each follow a blank
--     line first words       the bytes of a whole line
use Rattle.std.specs.Prelude.{ℕ, List, [], ◌∷◌, ◌++◌, codes, decimal}
use Prim.Native.Char.{code}
use Rattle.std.specs.List.{flat_map}
use Rattle.fault.specs.Numbers.{letter_of}
use Rattle.report.specs.declared.word.Word.{Word}
use Rattle.report.specs.declared.word.Word.TheVariants.{Holds, Misses, Open, Refused, Number, Layer, Absent}

-- A number is written in decimal, a layer by its letter, and a place that there is not by a dash.
abbrev pub text_of : Word → List ℕ
text_of Holds = codes "HOLDS"
text_of Misses = codes "MISSES"
text_of Open = codes "OPEN"
text_of Refused = codes "REFUSED"
text_of (Number n) = decimal n
text_of (Layer l) = letter_of l ∷ []
text_of Absent = codes "-"

-- One blank stands before the word.
abbrev pub blank_and : Word → List ℕ
blank_and word = code " " ∷ text_of word

-- Each word with its blank, one after the other.
abbrev pub blanked : List Word → List ℕ
blanked words = flat_map blank_and words

-- The first word, each further word after one blank, and the newline, which is the byte 10.
abbrev pub line : Word → List Word → List ℕ
line first words = text_of first ++ (blanked words ++ (10 ∷ []))
