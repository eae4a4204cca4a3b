-- The promise of each public function of `formula` has one answer. Assumes nothing.
use mathlib.Core.Path.{refl, sym, ◌∙◌}
use Rattle.tight.specs.OneAnswer.{OneAnswer}
use Rattle.formula.proofs.cells.natural.Kinds as cells-natural-kinds
use Rattle.formula.proofs.cells.natural.Reads as cells-natural
use Rattle.formula.proofs.cells.cell_of.Kinds as cells-cell-of-kinds
use Rattle.formula.proofs.cells.cell_of.Reads as cells-cell-of
use Rattle.formula.proofs.cells.arity.Kinds as cells-arity-kinds
use Rattle.formula.proofs.cells.arity.Reads as cells-arity
use Rattle.formula.proofs.cells.name.Kinds as cells-name-kinds
use Rattle.formula.proofs.cells.name.Reads as cells-name
use Rattle.formula.proofs.cells.cell_at.Kinds as cells-cell-at-kinds
use Rattle.formula.proofs.cells.cell_at.Reads as cells-cell-at
use Rattle.formula.proofs.cells.cell_count.Kinds as cells_cell_count_kinds
use Rattle.formula.proofs.cells.cell_count.Reads as cells_cell_count
use Rattle.formula.proofs.cells.name_at.Kinds as cells_name_at_kinds
use Rattle.formula.proofs.cells.name_at.Reads as cells_name_at
use Rattle.formula.proofs.cells.end.Kinds as cells-end-kinds
use Rattle.formula.proofs.cells.end.Reads as cells-end
use Rattle.formula.proofs.legal.readable.Kinds as legal-readable-kinds
use Rattle.formula.proofs.legal.readable.Reads as legal-readable
use Rattle.formula.proofs.legal.legal.Kinds as legal-legal-kinds
use Rattle.formula.proofs.legal.legal.Reads as legal-legal
use Rattle.formula.proofs.scans.read_cells.Kinds as scans-read-cells-kinds
use Rattle.formula.proofs.scans.read_cells.Reads as scans-read-cells
use Rattle.formula.proofs.scans.height.Kinds as scans-height-kinds
use Rattle.formula.proofs.scans.height.Reads as scans-height

pub one_cells_natural : OneAnswer cells-natural-kinds.ps cells-natural-kinds.r cells-natural.Learnt
one_cells_natural κs a x y v w p q = (p ∙ sym q, refl)

pub one_cells_cell_of : OneAnswer cells-cell-of-kinds.ps cells-cell-of-kinds.r cells-cell-of.Learnt
one_cells_cell_of κs a x y v w p q = (p ∙ sym q, refl)

pub one_cells_arity : OneAnswer cells-arity-kinds.ps cells-arity-kinds.r cells-arity.Learnt
one_cells_arity κs a x y v w p q = (p ∙ sym q, refl)

pub one_cells_name : OneAnswer cells-name-kinds.ps cells-name-kinds.r cells-name.Learnt
one_cells_name κs a x y v w p q = (p ∙ sym q, refl)

pub one_cells_cell_at : OneAnswer cells-cell-at-kinds.ps cells-cell-at-kinds.r cells-cell-at.Learnt
one_cells_cell_at κs a x y v w p q = (p ∙ sym q, refl)

pub one_cells_cell_count : OneAnswer cells_cell_count_kinds.ps cells_cell_count_kinds.r cells_cell_count.Learnt
one_cells_cell_count κs a x y v w p q = (p ∙ sym q, refl)

pub one_cells_name_at : OneAnswer cells_name_at_kinds.ps cells_name_at_kinds.r cells_name_at.Learnt
one_cells_name_at κs a x y v w p q = (p ∙ sym q, refl)

pub one_cells_end : OneAnswer cells-end-kinds.ps cells-end-kinds.r cells-end.Learnt
one_cells_end κs a x y v w p q = (p ∙ sym q, refl)

pub one_legal_readable : OneAnswer legal-readable-kinds.ps legal-readable-kinds.r legal-readable.Learnt
one_legal_readable κs a x y v w p q = (p ∙ sym q, refl)

pub one_legal_legal : OneAnswer legal-legal-kinds.ps legal-legal-kinds.r legal-legal.Learnt
one_legal_legal κs a x y v w p q = (p ∙ sym q, refl)

pub one_scans_read_cells : OneAnswer scans-read-cells-kinds.ps scans-read-cells-kinds.r scans-read-cells.Learnt
one_scans_read_cells κs a x y v w p q = (p ∙ sym q, refl)

pub one_scans_height : OneAnswer scans-height-kinds.ps scans-height-kinds.r scans-height.Learnt
one_scans_height κs a x y v w p q = (p ∙ sym q, refl)
