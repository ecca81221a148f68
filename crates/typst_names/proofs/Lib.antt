-- From what a contract promises to the lemma behind it:
--   Placed: if_holds, child_at                  HoldingNodes: around-passed, around-held, kid-passed, kid-held
--   names, push_row, take_next (scopes)         LeftNames: left_pushed, steps_pushed, none_left, nothing_left; end_is, joined
--   name_roles, push_row, take_next (roles)     LeftRoles: left_pushed, steps_pushed, none_left; joined, and end_is of LeftNames
--   name_at                                     NamesAt: among, at_start, at_holding, at_step, at_end
--   add_uses, last_hiding                       UsesFound: uses_step, hidden_step; last_found, last_passed
-- HoldingNodes (around-before, around-within) and LeftNames (end_is) also serve the crates above.
pub mod Cited
pub mod HoldingNodes
pub mod LeftNames
pub mod LeftRoles
pub mod NamesAt
pub mod UsesFound
