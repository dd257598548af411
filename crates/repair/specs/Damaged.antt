-- What a delivery holds, as it is lent with the filler. Definition only.
use Rattle.repair.specs.declared.samples.Damaged.{Damaged}
use Rattle.repair.specs.Definition.{Delivery, delivery}

abbrev pub delivered : Damaged → Delivery
delivered d = delivery d.centre.now d.neighbours.now
