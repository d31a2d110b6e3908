use Rattle.std.proofs.Common.{rules, tests}
use Rattle.std.specs.Str.{bytes_eq}
use Rattle.std.proofs.lemmas.Iterator.{YieldsList-from_slice}
use Rattle.std.proofs.lemmas.Iterator.Search.{any_from_yields_List}
use Rattle.replay.specs.Words.{later}
use Rattle.replay.proofs.words.is_later.Goals as goal

pub returns : goal.returns
unfolding later
returns c = any_from_yields_List (λ name. bytes_eq c.args.word.now name.now) _ _ c.any.result c.any.ensures.ran (YieldsList-from_slice _ c.iter.ensures.rest) (λ x b q k. search (rules, tests))
