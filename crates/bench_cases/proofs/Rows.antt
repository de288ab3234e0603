-- Every row of the bench table has its due answer, by computing the definitions. Assumes nothing.
use mathlib.Core.List.Memᴰ
use mathlib.Core.List.{List, [], ◌∷◌, map, Memᴰ}
use mathlib.Core.Logic.{⊎_elim}
use mathlib.Core.Path.{◌≡◌, refl}
use Rattle.certificate.specs.Octets.{bit_of, ◌also◌}
use Rattle.certificate.specs.Loops.{sum_to, greatest_to, any_to, every_of, every_from, first_of_these, find_from, rounds, loop_from}
use Rattle.certificate.specs.Checks.{need, or_else, first_of, first_from, marked, opened}
use Rattle.certificate.specs.Layout.{remembers, takes_turns, link_size, start_flow_of, turns_start, signals_start, mode_records_of, modes_start, mode_size, shown_before, goal_number_of, goal_for, greatest_goal, next_goal, grid_start, grid_at, product_of, arrivals_start, entries_start, end_at}
use Rattle.certificate.specs.Records.{header_ok, header_marked, header_fault, link_ok, link_fault, pair_below, turn_ascends, share_total, turn_ok, turn_fault, signal_ok, signal_fault, goals_safe, same_goals, goals_agree, is_used, no_gap, goals_ok, mode_ok, mode_fault, cut_before, cut_ok, cut_fault, count_ok, grid_fault, range_ok, range_fault, arrival_fault, entry_ascends, names_exist, passes_on, turns_on, entry_fault, end_fault}
use Rattle.certificate.specs.Reading.{links_fault, turns_fault, signals_fault, modes_fault, grids_fault, arrivals_fault, entries_fault, reading_of}
use Rattle.network.specs.Flow.{least_to, sent, passed_in, gross, next}
use Rattle.network.specs.Conditions.{pull_sum, pull_fault, signal_pulls_fault, pulls_fault, room_ok, room_fault, rooms_fault, screening_of}
use Rattle.network.specs.Image.{beside, low_corner, high_corner, exceeds_cap}
use Rattle.grid.specs.Intervals.{upper_edge, interval_at}
use Rattle.grid.specs.Cells.{number_of, prefix_of, interval_in, cell_at}
use Rattle.grid.specs.Successors.{image_low, image_high, image_over, meets, is_successor}
use Rattle.judging.specs.Lookup.{entry_for, is_listed}
use Rattle.judging.specs.EntryTests.{is_safe, is_goal, is_ranked, standing_fault, follows, is_lower, successor_fault, count_after, look_fault, cell_round, box_round, entry_round, judging_from}
use Rattle.judging.specs.Verdict.{verdict_of}
use Rattle.judging.specs.Overflow.{box_overflows, entry_overflows, overflows_before, overflows_of}
use Rattle.judging.specs.Asking.{is_proper, cell_fault, lookup_fault}
use Rattle.controller.specs.State.{is_certificate}
use Rattle.controller.specs.Query.{query_fault, query_of}
use lib.Ieee.{of_bits}
use Rattle.detectors.specs.Readings.{is_queue, is_bad, level_of}
use Rattle.detectors.specs.Polls.{opens, is_framed, word, detector_of, level_fault, cell_of_queues, readings_fault, polled_fault}
use Rattle.polls.specs.Poll.{poll_fault, poll_of}
use Rattle.listing_text.specs.Text.{digits}
use Rattle.listing_text.specs.Lines.{counts_line, entry_line, entry_lines, accepted_line, refused_line}
use Rattle.listing_text.specs.Listing.{accepted_text, text_of, listing_of}
use Rattle.listing_text.specs.Laws.{bytes_of}
use Rattle.bench_cases.specs.Table.{Row, Answer, lines_of, answer, rows, AllMet}

given : Row → Answer
given r = answer r.asks

due : Row → Answer
due r = r.due

computed : map given rows ≡ map due rows
unfolding given due rows answer bit_of ◌also◌ sum_to greatest_to any_to every_of every_from first_of_these find_from rounds loop_from need or_else first_of first_from marked opened remembers takes_turns link_size start_flow_of turns_start signals_start mode_records_of modes_start mode_size shown_before goal_number_of goal_for greatest_goal next_goal grid_start grid_at product_of arrivals_start entries_start end_at header_ok header_marked header_fault link_ok link_fault pair_below turn_ascends share_total turn_ok turn_fault signal_ok signal_fault goals_safe same_goals goals_agree is_used no_gap goals_ok mode_ok mode_fault cut_before cut_ok cut_fault count_ok grid_fault range_ok range_fault arrival_fault entry_ascends names_exist passes_on turns_on entry_fault end_fault links_fault turns_fault signals_fault modes_fault grids_fault arrivals_fault entries_fault reading_of least_to sent passed_in gross next pull_sum pull_fault signal_pulls_fault pulls_fault room_ok room_fault rooms_fault screening_of beside low_corner high_corner exceeds_cap upper_edge interval_at number_of prefix_of interval_in cell_at image_low image_high image_over meets is_successor entry_for is_listed is_safe is_goal is_ranked standing_fault follows is_lower successor_fault count_after look_fault cell_round box_round entry_round judging_from verdict_of box_overflows entry_overflows overflows_before overflows_of is_proper cell_fault lookup_fault is_certificate query_fault query_of is_queue is_bad level_of opens is_framed word detector_of level_fault cell_of_queues readings_fault polled_fault poll_fault poll_of of_bits digits counts_line entry_line entry_lines accepted_line refused_line accepted_text text_of listing_of bytes_of lines_of
computed = refl

each : (l : List Row) {r : Row} → map given l ≡ map due l → Memᴰ r l → given r ≡ due r
each [] e m = absurd (Memᴰ.not-nil m)
each (x ∷ l) {r} e m =
    ⊎_elim
    (λ (h : r ≡ x). let here : given x ≡ due x = cc in rw h here)
    (λ t. each l (cc) t)
    (Memᴰ.cases_cons m)

pub all_met : AllMet
unfolding given due
all_met r m = each rows computed m
