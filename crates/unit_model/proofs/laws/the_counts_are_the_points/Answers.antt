use Rattle.unit_model.proofs.PartPoints.{points_of_counts}
use Rattle.unit_model.proofs.PointCounts.{parts_of_points, streams_of_points}
use Rattle.unit_model.proofs.laws.the_counts_are_the_points.Goals as goal

pub returns : goal.returns
returns c core held = (
  (λ counts. points_of_counts core counts.0 counts.1),
  (λ points.
      let streams = streams_of_points core held.shape.seats held.streams.next points in
      (streams, parts_of_points core streams points)),
)
