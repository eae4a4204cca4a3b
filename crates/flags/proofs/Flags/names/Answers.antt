use Rattle.flags.proofs.FlagLaws.{tells, names_all}
use Rattle.flags.proofs.Flags.names.Goals as goal

pub returns : goal.returns
returns c =
    names_all _
    (tells 0 _ c.mask.ensures c.is_nonzero.ensures)
    (tells 1 _ c.mask-2.ensures c.is_nonzero-2.ensures)
    (tells 2 _ c.mask-3.ensures c.is_nonzero-3.ensures)
    (tells 3 _ c.mask-4.ensures c.is_nonzero-4.ensures)
    (tells 4 _ c.mask-5.ensures c.is_nonzero-5.ensures)
    (tells 5 _ c.mask-6.ensures c.is_nonzero-6.ensures)
