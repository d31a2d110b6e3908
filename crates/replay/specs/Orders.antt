-- What a line asks for, whatever way it is written, and the parts that it is written in.
use Rattle.std.specs.Prelude.{ℕ, List, [], ◌∷◌, codes}
use Rattle.replay.specs.declared.command.Rule.{Rule}
use Rattle.replay.specs.declared.command.Rule.TheVariants.{Plain, House}

pub data Order : Type 0 where
  measure : ℕ → Rule → List ℕ → Order
  admit : List ℕ → Order
  limiter : ℕ → ℕ → Order
  limiter_allow : ℕ → Order
  position : ℕ → Order
  position_allow : ℕ → Order
  position_reset : ℕ → Order
  position_set : ℕ → Order
  position_get : Order

-- a word that stands as it is, a number, a rate, a width rule, or bytes
pub data Part : Type 0 where
  word : List ℕ → Part
  number : ℕ → Part
  rate : ℕ → Part
  rule : Rule → Part
  text : List ℕ → Part

abbrev pub parts : Order → List Part
parts (measure w u t) = word (codes "measure") ∷ number w ∷ rule u ∷ text t ∷ []
parts (admit t) = word (codes "admit") ∷ text t ∷ []
parts (limiter r s) = word (codes "limiter") ∷ rate r ∷ number s ∷ []
parts (limiter_allow n) = word (codes "limiter") ∷ word (codes "allow") ∷ number n ∷ []
parts (position n) = word (codes "position") ∷ number n ∷ []
parts (position_allow n) = word (codes "position") ∷ word (codes "allow") ∷ number n ∷ []
parts (position_reset n) = word (codes "position") ∷ word (codes "reset") ∷ number n ∷ []
parts (position_set n) = word (codes "position") ∷ word (codes "set") ∷ number n ∷ []
parts position_get = word (codes "position") ∷ word (codes "get") ∷ []

-- how a line writes a width rule
abbrev pub named : Rule → List ℕ
named Plain = codes "plain"
named House = codes "house"
