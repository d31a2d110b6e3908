use Rattle.std.proofs.Common.{rules}
use Rattle.script.proofs.Bytes.{itself_at}
use Rattle.script.proofs.escape.next_byte.Goals as goal

pub returns-in-len1-up : goal.returns-in-len1-up
returns-in-len1-up c = itself_at c.args.text.now (search rules) (search rules)
