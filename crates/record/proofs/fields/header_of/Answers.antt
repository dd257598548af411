-- `header_of` meets its contract: each field is read where the model has it, and no measure of a record that passed is a NaN.
use native.Mathlib.Omega.{arith}
use Rattle.model.specs.Record.{header_of}
use Rattle.record.specs.Accepted.{measured}
use Rattle.record.proofs.fields.header_of.Goals as goal

pub float_at-requires : goal.float_at-requires
float_at-requires c = record { room = omega arith; number = measured _ c.requires 1 (omega arith) }

pub float_at-requires-2 : goal.float_at-requires-2
float_at-requires-2 c = record { room = omega arith; number = measured _ c.requires 2 (omega arith) }

pub float_at-requires-3 : goal.float_at-requires-3
float_at-requires-3 c = record { room = omega arith; number = measured _ c.requires 3 (omega arith) }

pub float_at-requires-4 : goal.float_at-requires-4
float_at-requires-4 c = record { room = omega arith; number = measured _ c.requires 4 (omega arith) }

pub float_at-requires-5 : goal.float_at-requires-5
float_at-requires-5 c = record { room = omega arith; number = measured _ c.requires 0 (omega arith) }

pub returns : goal.returns
unfolding header_of
returns c =
    λ i. record {
      block = record {
        base = record { x = c.float_at.ensures i; y = c.float_at-2.ensures i; z = c.float_at-3.ensures i };
        size = c.float_at-4.ensures i;
        subdivisions = c.subdivisions_of.ensures i;
      };
      mask = c.mask_of.ensures i;
      threshold = c.float_at-5.ensures i;
    }
