-- The cycle of calls `text::answers::put_digits` meets its contracts. Assumes nothing.
use Rattle.text.proofs.answers.+put_digits.Given as goal

abbrev pub decreases-put_digits : goal.decreases-put_digits
decreases-put_digits l = l.most
