-- `host::calls::put_many` meets its contract. Assumes nothing.
use borrow.Author.Rules.{rules}
use mathlib.Core.Path.{◌≡◌}
use mir.Syntax.{w64}
use mir.Val.{to_z, of_z}
use mir.Facts.{to_z-of_z}
use Rattle.hosting.proofs.ManyReplies.{without_reply, front_many}
use Rattle.host.proofs.calls.put_many.Goals as goal

pub returns-then-reply-lt-REPLY : goal.returns-then-reply-lt-REPLY
returns-then-reply-lt-REPLY c = without_reply _ _ _ _ _ c.if-reply-lt-REPLY.true

pub returns : goal.returns
returns c =
    let a = c.args in
    let word-1 : to_z w64 (of_z w64 c.number_word.result) ≡ c.number_word.result = to_z-of_z {w = w64} (search rules) in
    let word-2 : to_z w64 (of_z w64 c.number_word-2.result) ≡ c.number_word-2.result = to_z-of_z {w = w64} (search rules) in
    let word-3 : to_z w64 (of_z w64 c.number_word-3.result) ≡ c.number_word-3.result = to_z-of_z {w = w64} (search rules) in
    let word-4 : to_z w64 (of_z w64 c.number_word-4.result) ≡ c.number_word-4.result = to_z-of_z {w = w64} (search rules) in
    rw (c.copy_from_slice.ensures.after, word-1, word-2, word-3, word-4, c.number_word.ensures, c.number_word-2.ensures, c.number_word-3.ensures, c.number_word-4.ensures) (front_many a.reply.now a.why a.used a.done a.rows c.if-reply-lt-REPLY.false)
