-- What the statement of each public function allows is one answer: two that it allows for the same inputs are equal. The functions lend no buffer.
use mathlib.Core.Path.{◌≡◌, sym, ◌∙◌}
use contract.Lifetimes.{Lfts}
use Rattle.tables.proofs.regular_cell_class.Reads as regular-cell-class
use Rattle.tables.proofs.regular_cell_data.Reads as regular-cell-data
use Rattle.tables.proofs.regular_vertex_data.Reads as regular-vertex-data
use Rattle.tables.proofs.transition_cell_class.Reads as transition-cell-class
use Rattle.tables.proofs.transition_cell_data.Reads as transition-cell-data
use Rattle.tables.proofs.transition_vertex_data.Reads as transition-vertex-data
use Rattle.tables.proofs.regular_case_codes.Reads as regular-case-codes
use Rattle.tables.proofs.regular_case_cell.Reads as regular-case-cell
use Rattle.tables.proofs.transition_case_codes.Reads as transition-case-codes
use Rattle.tables.proofs.transition_case_cell.Reads as transition-case-cell
use Rattle.tables.proofs.transition_turned.Reads as transition-turned
use Rattle.tables.proofs.aux_tables.cell_point.Reads as cell-point
use Rattle.tables.proofs.tables_wrapper.voxel_a_index.Reads as voxel-a-index
use Rattle.tables.proofs.tables_wrapper.voxel_b_index.Reads as voxel-b-index
use Rattle.tables.proofs.tables_wrapper.reuse_dx.Reads as reuse-dx
use Rattle.tables.proofs.tables_wrapper.reuse_dy.Reads as reuse-dy
use Rattle.tables.proofs.tables_wrapper.reuse_dz.Reads as reuse-dz
use Rattle.tables.proofs.tables_wrapper.new_vertex.Reads as new-vertex
use Rattle.tables.proofs.tables_wrapper.reuse_index.Reads as reuse-index

pub regular_cell_class_pinned : (κs : Lfts 0) (a : _) (r r' : _) (e e' : _) → regular-cell-class.Learnt κs a r e → regular-cell-class.Learnt κs a r' e' → r ≡ r'
regular_cell_class_pinned κs a r r' e e' h k = h ∙ sym k

pub regular_cell_data_pinned : (κs : Lfts 0) (a : _) (r r' : _) (e e' : _) → regular-cell-data.Learnt κs a r e → regular-cell-data.Learnt κs a r' e' → r ≡ r'
regular_cell_data_pinned κs a r r' e e' h k = h ∙ sym k

pub regular_vertex_data_pinned : (κs : Lfts 0) (a : _) (r r' : _) (e e' : _) → regular-vertex-data.Learnt κs a r e → regular-vertex-data.Learnt κs a r' e' → r ≡ r'
regular_vertex_data_pinned κs a r r' e e' h k = h ∙ sym k

pub transition_cell_class_pinned : (κs : Lfts 0) (a : _) (r r' : _) (e e' : _) → transition-cell-class.Learnt κs a r e → transition-cell-class.Learnt κs a r' e' → r ≡ r'
transition_cell_class_pinned κs a r r' e e' h k = h ∙ sym k

pub transition_cell_data_pinned : (κs : Lfts 0) (a : _) (r r' : _) (e e' : _) → transition-cell-data.Learnt κs a r e → transition-cell-data.Learnt κs a r' e' → r ≡ r'
transition_cell_data_pinned κs a r r' e e' h k = h ∙ sym k

pub transition_vertex_data_pinned : (κs : Lfts 0) (a : _) (r r' : _) (e e' : _) → transition-vertex-data.Learnt κs a r e → transition-vertex-data.Learnt κs a r' e' → r ≡ r'
transition_vertex_data_pinned κs a r r' e e' h k = h ∙ sym k

pub regular_case_codes_pinned : (κs : Lfts 1) (a : _) (r r' : _) (e e' : _) → regular-case-codes.Learnt κs a r e → regular-case-codes.Learnt κs a r' e' → r.now ≡ r'.now
regular_case_codes_pinned κs a r r' e e' h k = h ∙ sym k

pub regular_case_cell_pinned : (κs : Lfts 2) (a : _) (r r' : _) (e e' : _) → regular-case-cell.Learnt κs a r e → regular-case-cell.Learnt κs a r' e' → r.now ≡ r'.now
regular_case_cell_pinned κs a r r' e e' h k = h ∙ sym k

pub transition_case_codes_pinned : (κs : Lfts 1) (a : _) (r r' : _) (e e' : _) → transition-case-codes.Learnt κs a r e → transition-case-codes.Learnt κs a r' e' → r.now ≡ r'.now
transition_case_codes_pinned κs a r r' e e' h k = h ∙ sym k

pub transition_case_cell_pinned : (κs : Lfts 2) (a : _) (r r' : _) (e e' : _) → transition-case-cell.Learnt κs a r e → transition-case-cell.Learnt κs a r' e' → r.now ≡ r'.now
transition_case_cell_pinned κs a r r' e e' h k = h ∙ sym k

pub transition_turned_pinned : (κs : Lfts 1) (a : _) (r r' : _) (e e' : _) → transition-turned.Learnt κs a r e → transition-turned.Learnt κs a r' e' → r ≡ r'
transition_turned_pinned κs a r r' e e' h k = h ∙ sym k

pub cell_point_pinned : (κs : Lfts 0) (a : _) (r r' : _) (e e' : _) → cell-point.Learnt κs a r e → cell-point.Learnt κs a r' e' → r ≡ r'
cell_point_pinned κs a r r' e e' h k = h ∙ sym k

pub voxel_a_index_pinned : (κs : Lfts 0) (a : _) (r r' : _) (e e' : _) → voxel-a-index.Learnt κs a r e → voxel-a-index.Learnt κs a r' e' → r ≡ r'
voxel_a_index_pinned κs a r r' e e' h k = h.0 ∙ sym k.0

pub voxel_b_index_pinned : (κs : Lfts 0) (a : _) (r r' : _) (e e' : _) → voxel-b-index.Learnt κs a r e → voxel-b-index.Learnt κs a r' e' → r ≡ r'
voxel_b_index_pinned κs a r r' e e' h k = h.0 ∙ sym k.0

pub reuse_dx_pinned : (κs : Lfts 0) (a : _) (r r' : _) (e e' : _) → reuse-dx.Learnt κs a r e → reuse-dx.Learnt κs a r' e' → r ≡ r'
reuse_dx_pinned κs a r r' e e' h k = h.0 ∙ sym k.0

pub reuse_dy_pinned : (κs : Lfts 0) (a : _) (r r' : _) (e e' : _) → reuse-dy.Learnt κs a r e → reuse-dy.Learnt κs a r' e' → r ≡ r'
reuse_dy_pinned κs a r r' e e' h k = h.0 ∙ sym k.0

pub reuse_dz_pinned : (κs : Lfts 0) (a : _) (r r' : _) (e e' : _) → reuse-dz.Learnt κs a r e → reuse-dz.Learnt κs a r' e' → r ≡ r'
reuse_dz_pinned κs a r r' e e' h k = h.0 ∙ sym k.0

pub new_vertex_pinned : (κs : Lfts 0) (a : _) (r r' : _) (e e' : _) → new-vertex.Learnt κs a r e → new-vertex.Learnt κs a r' e' → r ≡ r'
new_vertex_pinned κs a r r' e e' h k = h ∙ sym k

pub reuse_index_pinned : (κs : Lfts 0) (a : _) (r r' : _) (e e' : _) → reuse-index.Learnt κs a r e → reuse-index.Learnt κs a r' e' → r ≡ r'
reuse_index_pinned κs a r r' e e' h k = h.0 ∙ sym k.0
