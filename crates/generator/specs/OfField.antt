-- A field is a ring: its laws have the ring's among them.
use Rattle.algebra.specs.Field.{Meaning, Laws}
use Rattle.generator.specs.Ring.{RingLaws}

pub ring_of : (F : Meaning) → Laws F → RingLaws F
ring_of F L = record {
  small = L.small;
  two = L.two;
  sum_below = L.sum_below;
  difference_below = L.difference_below;
  product_below = L.product_below;
  sum_assoc = L.sum_assoc;
  sum_comm = L.sum_comm;
  sum_zero = L.sum_zero;
  product_comm = L.product_comm;
  product_one = L.product_one;
  distributes = L.distributes;
  difference_sum = L.difference_sum;
}
