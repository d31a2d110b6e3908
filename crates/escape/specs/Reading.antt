-- What the reader makes of whole lists of codes.
use Rattle.std.specs.Prelude.{ℕ, suc, Bool, false, List, [], ◌∷◌, Some, None, Option}
use Rattle.escape.specs.Reader.{verdict, after, ended}
use Rattle.escape.specs.declared.reader.State.{State}
use Rattle.escape.specs.declared.reader.State.TheVariants.{Ground, Escaped, Parameters, Intermediates}
use Rattle.escape.specs.declared.reader.Verdict.{Verdict}
use Rattle.escape.specs.declared.reader.Verdict.TheVariants.{Plain, Colour}

abbrev pub goes : Option Verdict → Bool → Bool
goes (Some Plain) b = b
goes (Some Colour) b = b
goes None b = false

-- the reader takes each of the codes, and ends between sequences
abbrev pub accepts : State → List ℕ → Bool
accepts st [] = ended st
accepts st (c ∷ cs) = goes (verdict st c) (accepts (after st c) cs)

abbrev pub kept : Option Verdict → ℕ → List ℕ → List ℕ
kept (Some Plain) c xs = c ∷ xs
kept (Some Colour) c xs = xs
kept None c xs = xs

-- the plain characters among the codes
abbrev pub letters : State → List ℕ → List ℕ
letters st [] = []
letters st (c ∷ cs) = kept (verdict st c) c (letters (after st c) cs)

abbrev pub one_more : Option ℕ → Option ℕ
one_more None = None
one_more (Some n) = Some (suc n)

abbrev pub closes : Option Verdict → State → Option ℕ → Option ℕ
closes (Some Plain) st r = None
closes None st r = None
closes (Some Colour) Ground r = Some 1
closes (Some Colour) Escaped r = one_more r
closes (Some Colour) Parameters r = one_more r
closes (Some Colour) Intermediates r = one_more r

-- how many codes the reader takes until its sequence ends, if all of them are parts of one
abbrev pub closing : State → List ℕ → Option ℕ
closing st [] = None
closing st (c ∷ cs) = closes (verdict st c) (after st c) (closing (after st c) cs)
