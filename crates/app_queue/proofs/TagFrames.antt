-- What steps do to the account of arms and wins.
use Rattle.std.proofs.Common.{◌<◌, set}
use Rattle.tracking_word.specs.Parts.{Counted}
use Rattle.tracking_word.proofs.Parts.{counted_stays, counted_arm, counted_win, counted_split, counted_join}
use Rattle.app_queue.specs.FrameLaws.{CountedStayLaw, CountedArmLaw, CountedWinLaw}
use Rattle.app_queue.specs.SeatLaws.{CountedSplitLaw, CountedJoinLaw}
use Rattle.app_queue.proofs.ForEach.{at_queue}

-- ---- arms and wins

pub tags_counted : (V : Type 0) → CountedStayLaw V
tags_counted V arms wins shape tag tag' views k v u at stays armed won old q lt =
    counted_stays (arms q) (wins q) (shape.items q) (tag q) (tag' q) views k v u at (stays q lt) (armed q) (won q) (old q lt)

pub tags_armed : (V : Type 0) → CountedArmLaw V
tags_armed V arms wins shape tag tag' views k v u at q item x below_n sets was pos here others won old r lt =
    at_queue (λ p. p < shape.queues → Counted (arms p) (wins p) (shape.items p) (tag' p) (set views k u)) shape.queues q
    (λ lt'. counted_arm (arms q) (wins q) (shape.items q) (tag q) (tag' q) views k v u at item x below_n sets.here was pos here (won q) (old q lt'))
    (λ p lt' ne again. counted_stays (arms p) (wins p) (shape.items p) (tag p) (tag' p) views k v u at (sets.others p lt' ne) (others p lt' ne) (won p) (old p lt'))
    r lt lt

pub tags_won : (V : Type 0) → CountedWinLaw V
tags_won V arms wins shape tag tag' views k v u at q item x below_n sets is pos armed here others old r lt =
    at_queue (λ p. p < shape.queues → Counted (arms p) (wins p) (shape.items p) (tag' p) (set views k u)) shape.queues q
    (λ lt'. counted_win (arms q) (wins q) (shape.items q) (tag q) (tag' q) views k v u at item x below_n sets.here is pos (armed q) here (old q lt'))
    (λ p lt' ne again. counted_stays (arms p) (wins p) (shape.items p) (tag p) (tag' p) views k v u at (sets.others p lt' ne) (armed p) (others p lt' ne) (old p lt'))
    r lt lt

pub counted_splits : (V : Type 0) → CountedSplitLaw V
counted_splits V arms wins shape tag views k v left right at armed won old q lt = counted_split (arms q) (wins q) (shape.items q) (tag q) views k v left right at (armed q) (won q) (old q lt)

pub counted_joins : (V : Type 0) → CountedJoinLaw V
counted_joins V arms wins shape tag views k other v o both spent two armed won old q lt = counted_join (arms q) (wins q) (shape.items q) (tag q) views k other v o both spent two.first two.second (armed q) (won q) (old q lt)
