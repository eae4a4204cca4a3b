-- `host::calls::put_reply` meets its contract. Assumes nothing.
use borrow.Author.Rules.{rules}
use mathlib.Core.Path.{◌≡◌}
use mir.Syntax.{w64}
use mir.Val.{to_z, of_z}
use mir.Facts.{to_z-of_z}
use Rattle.hosting.proofs.Replies.{short_reply, front_reply}
use Rattle.host.proofs.calls.put_reply.Goals as goal

pub returns-then-reply-lt-REPLY : goal.returns-then-reply-lt-REPLY
returns-then-reply-lt-REPLY c = short_reply _ _ _ _ c.if-reply-lt-REPLY.true

pub returns : goal.returns
returns c =
    let first : to_z w64 (of_z w64 c.number_word.result) ≡ c.number_word.result = to_z-of_z {w = w64} (search rules) in
    let second : to_z w64 (of_z w64 c.args.value) ≡ c.args.value = to_z-of_z {w = w64} (search rules) in
    let third : to_z w64 (of_z w64 c.number_word-2.result) ≡ c.number_word-2.result = to_z-of_z {w = w64} (search rules) in
    rw (c.copy_from_slice.ensures.after, first, second, third, c.number_word.ensures, c.number_word-2.ensures) (front_reply c.args.reply.now c.args.code c.args.value c.args.runs c.if-reply-lt-REPLY.false)
