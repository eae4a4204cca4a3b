-- `host::calls::simmer_commands` meets its contract. Assumes nothing.
use Rattle.hosting.proofs.ManyReplies.{not_done, calls_done}
use Rattle.host.proofs.calls.simmer_commands.Goals as goal

pub returns-then-reply-lt-REPLY : goal.returns-then-reply-lt-REPLY
returns-then-reply-lt-REPLY c = not_done _ _ _ _ _ _ _ _ c.if-reply-lt-REPLY.true

pub returns : goal.returns
returns c = rw (c.put_many.ensures, c.why_number-why.ensures) (calls_done _ _ _ _ _ _ _ _ _ c.if-reply-lt-REPLY.false c.series-e.ensures)
