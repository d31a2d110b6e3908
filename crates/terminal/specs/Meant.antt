-- Operations as the program holds them. Assumes nothing.
use Rattle.terminal.specs.Operations.{Op, move, clear_line, write, write_return, write_line, flush}
use Rattle.terminal.specs.declared.operation.Operation.{Operation}
use Rattle.terminal.specs.declared.operation.Operation.TheVariants as ops

abbrev pub meant : Operation → Op
meant (ops.Move d n) = move d n
meant ops.ClearLine = clear_line
meant (ops.WriteStr text) = write text.now
meant ops.WriteReturn = write_return
meant (ops.WriteLine text) = write_line text.now
meant ops.Flush = flush
