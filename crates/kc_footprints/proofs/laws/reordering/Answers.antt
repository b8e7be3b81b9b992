use Rattle.kc_footprints.proofs.Reordered.{is_order_free, is_wave_order_free}
use Rattle.kc_footprints.proofs.laws.reordering.Goals as goal

pub returns : goal.returns
returns c = record { any = is_order_free; by_waves = is_wave_order_free }
