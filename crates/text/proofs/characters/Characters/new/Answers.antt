use Rattle.text.proofs.Walking.{readable_whole, left_whole, all_items}
use Rattle.text.proofs.characters.Characters.new.Goals as goal

pub returns-clause-readable : goal.returns-clause-readable
returns-clause-readable c = readable_whole c.new.result c.args.text.now c.new.ensures

pub returns-clause-left : goal.returns-clause-left
returns-clause-left c = left_whole c.new.result c.args.text.now c.new.ensures

pub returns-clause-items : goal.returns-clause-items
returns-clause-items c = all_items _ c.new.ensures
