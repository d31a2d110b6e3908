use Rattle.std.proofs.Common.{◌≡◌, rules, tests, ◌∙◌, ap}
use Rattle.std.specs.Option.{option_map}
use Rattle.std.specs.Str.{bytes_eq}
use Rattle.std.proofs.lemmas.Iterator.{YieldsList-from_slice}
use Rattle.std.proofs.lemmas.Iterator.Search.{find_from_yields_List}
use Rattle.replay.proofs.Tables.{pick_find}
use Rattle.replay.proofs.words.look_up.Goals as goal

pub returns : goal.returns
returns g c =
    let found = find_from_yields_List (λ row. bytes_eq c.args.word.now row.0.now) _ _ c.find.result c.find.ensures.ran (YieldsList-from_slice c.args.table.now c.iter.ensures.rest) (λ x b q k. search (rules, tests)) in
    let mapped : c.map.result ≡ option_map (λ row. row.1) (option_map (λ row. row.now) c.find.result) = search rules in
    mapped ∙ ap (option_map (λ row. row.1)) found ∙ pick_find c.args.word.now c.args.table.now
