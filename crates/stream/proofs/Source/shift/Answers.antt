use Rattle.std.proofs.Common.{rules, ◌≡◌, min, length}
use Rattle.stream.proofs.Fronts.{front_of}
use Rattle.stream.proofs.Source.shift.Goals as goal

pub returns-clause-front : goal.returns-clause-front
returns-clause-front g c =
    let buf = c.args.self.now.buf.now in
    let e : c.min-end.result ≡ min c.args.self.now.end (length buf) = search rules in
    let a : c.min-at.result ≡ min c.args.self.now.at c.min-end.result = search rules in
    front_of buf c.args.self.now.at c.args.self.now.end c.min-at.result c.min-end.result c.copy_within.new.self e a (search rules)
