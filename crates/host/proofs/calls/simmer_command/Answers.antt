-- `host::calls::simmer_command` meets its contract. Assumes nothing.
use borrow.Author.Rules.{rules}
use Rattle.commanding.proofs.AnswerLaws.{spelt}
use Rattle.hosting.proofs.Replies.{not_called, call_done}
use mathlib.Core.Path.{◌≡◌}
use mir.Syntax.{w64}
use mir.Val.{to_z, of_z}
use mir.Facts.{to_z-of_z}
use Rattle.host.proofs.calls.simmer_command.Goals as goal

pub returns-then-reply-lt-REPLY : goal.returns-then-reply-lt-REPLY
returns-then-reply-lt-REPLY c = not_called _ _ _ _ _ _ _ c.if-reply-lt-REPLY.true

pub returns : goal.returns
returns c =
    let value : to_z w64 (of_z w64 c.from-a.result.value) ≡ c.from-a.result.value = to_z-of_z {w = w64} (search rules) in
    rw (c.put_reply.ensures, value) (call_done _ _ _ _ _ _ _ _ c.if-reply-lt-REPLY.false (spelt _ c.from-a.ensures c.command.ensures))
