use Rattle.hub_table.proofs.Prelude.{BeginsWithSealed, false, subst, ◌≡◌}
use Rattle.history_book.specs.Settings.{is_weak}
use Rattle.hub_table.proofs.Leaving.{empty_at_close}
use Rattle.hub_table.proofs.tables.Table.close.Goals as goal
use Rattle.legal_days.specs.LegalWindows.{history_of}

pub drop_empty-requires : goal.drop_empty-requires
drop_empty-requires g c = empty_at_close _ _ _ c.self.invariant c.in-Ok.ensures.closed.places

pub returns-in-Ok-clause-sealed : goal.returns-in-Ok-clause-sealed
returns-in-Ok-clause-sealed g c = subst (λ s. is_weak s.setting.mode ≡ false → BeginsWithSealed s.setting (history_of c.in-Ok.closed.1) c.in-Ok.closed.1.order.items) c.self.view_is c.in-Ok.ensures.sealed
