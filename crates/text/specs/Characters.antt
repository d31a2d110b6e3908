-- A text that is read one character at a time.
use Rattle.std.specs.Prelude.{◌≡◌, ℕ, Bool, true, ◌&&◌, List, [], ◌∷◌, Option, MatchOption}
use Rattle.std.specs.Str.{chars}
use Rattle.escape.specs.Reading.{accepts, letters}
use Rattle.escape.specs.declared.reader.State.{State}
use Rattle.text.specs.declared.characters.Characters.{Characters}
use Rattle.text.specs.Texts.{utf8}

-- bs, read on from the state st, is admissible
abbrev pub readable : State → List ℕ → Bool
readable st bs = utf8 bs && accepts st (chars bs)

-- the characters that are left in bs, read on from the state st
abbrev pub left : State → List ℕ → List ℕ
left st bs = letters st (chars bs)

-- a question for the next character, which took the state st to st' and the bytes bs to bs': where bs is admissible, r is the first character that was left, and the others are left now
pub record NextCharacter (st : State) (bs : List ℕ) (r : Option ℕ) (st' : State) (bs' : List ℕ) : Type 0 where
  pub kept : readable st bs ≡ true → readable st' bs' ≡ true
  pub item : readable st bs ≡ true → MatchOption r ((left st bs ≡ []) × (left st' bs' ≡ [])) (λ c. left st bs ≡ c ∷ left st' bs')

abbrev pub gives : Characters → Option ℕ → Characters → Type 0
gives s r t = NextCharacter s.reader s.rest.now r t.reader t.rest.now
