use Rattle.std.proofs.Common.{vec_items}
use Rattle.syntax.proofs.Actions.{stop_row, give_row, take_row, choose_row, offer_row, set_row, if_row, show_row, start_row, become_row}
use Rattle.syntax.proofs.write.+write_action.Goals as goal
use Rattle.syntax.specs.Marks.{words_of}

pub returns-in_ok-put-in-Stop : goal.returns-in_ok-put-in-Stop
returns-in_ok-put-in-Stop t c =
    stop_row (vec_items c.args.out.now) (vec_items c.put.new.out) (words_of (vec_items c.args.marks.now)) (words_of (vec_items c.note.new.marks)) c.in-Stop.is c.in_ok-put-in-Stop.ensures c.in_ok-note.ensures

pub returns-in_ok-write_action-in-Give : goal.returns-in_ok-write_action-in-Give
returns-in_ok-write_action-in-Give t c =
    give_row (vec_items c.args.out.now) (vec_items c.put_two.new.out) (vec_items c.write_expression.new.out) (vec_items c.write_action.new.out) (words_of (vec_items c.args.marks.now)) (words_of (vec_items c.note.new.marks)) (words_of (vec_items c.write_action.new.marks)) c.in-Give.is c.deref.ensures c.in_ok-put_two-in-Give.ensures c.in_ok-write_expression-in-Give.ensures c.in_ok-note.ensures c.in_ok-write_action-in-Give.ensures

pub returns-in_ok-write_action-in-Take : goal.returns-in_ok-write_action-in-Take
returns-in_ok-write_action-in-Take t c =
    take_row (vec_items c.args.out.now) (vec_items c.put_three.new.out) (vec_items c.write_action-in-Take.new.out) (words_of (vec_items c.args.marks.now)) (words_of (vec_items c.note.new.marks)) (words_of (vec_items c.write_action-in-Take.new.marks)) c.in-Take.is c.deref-in-Take.ensures c.in_ok-put_three-in-Take.ensures c.in_ok-note.ensures c.in_ok-write_action-in-Take.ensures

pub returns-in_ok-write_action-in-Choose : goal.returns-in_ok-write_action-in-Choose
returns-in_ok-write_action-in-Choose t c =
    choose_row (vec_items c.args.out.now) (vec_items c.put_three-in-Choose.new.out) (vec_items c.write_action-in-Choose.new.out) (words_of (vec_items c.args.marks.now)) (words_of (vec_items c.note.new.marks)) (words_of (vec_items c.write_action-in-Choose.new.marks)) c.in-Choose.is c.deref-in-Choose.ensures c.in_ok-put_three-in-Choose.ensures c.in_ok-note.ensures c.in_ok-write_action-in-Choose.ensures

pub returns-in_ok-write_action-in-Offer-2 : goal.returns-in_ok-write_action-in-Offer-2
returns-in_ok-write_action-in-Offer-2 t c =
    offer_row (vec_items c.args.out.now) (vec_items c.put_two-in-Offer.new.out) (vec_items c.write_action-in-Offer.new.out) (vec_items c.write_action-in-Offer-2.new.out) (words_of (vec_items c.args.marks.now)) (words_of (vec_items c.note.new.marks)) (words_of (vec_items c.write_action-in-Offer.new.marks)) (words_of (vec_items c.write_action-in-Offer-2.new.marks)) c.in-Offer.is c.deref-in-Offer.ensures c.deref-in-Offer-2.ensures c.in_ok-put_two-in-Offer.ensures c.in_ok-note.ensures c.in_ok-write_action-in-Offer.ensures c.in_ok-write_action-in-Offer-2.ensures

pub returns-in_ok-write_action-in-Set : goal.returns-in_ok-write_action-in-Set
returns-in_ok-write_action-in-Set t c =
    set_row (vec_items c.args.out.now) (vec_items c.put_two-in-Set.new.out) (vec_items c.write_expression-in-Set.new.out) (vec_items c.write_action-in-Set.new.out) (words_of (vec_items c.args.marks.now)) (words_of (vec_items c.note.new.marks)) (words_of (vec_items c.write_action-in-Set.new.marks)) c.in-Set.is c.deref-in-Set.ensures c.in_ok-put_two-in-Set.ensures c.in_ok-write_expression-in-Set.ensures c.in_ok-note.ensures c.in_ok-write_action-in-Set.ensures

pub returns-in_ok-write_action-in-If-2 : goal.returns-in_ok-write_action-in-If-2
returns-in_ok-write_action-in-If-2 t c =
    if_row (vec_items c.args.out.now) (vec_items c.put-in-If.new.out) (vec_items c.write_expression-in-If.new.out) (vec_items c.write_action-in-If.new.out) (vec_items c.write_action-in-If-2.new.out) (words_of (vec_items c.args.marks.now)) (words_of (vec_items c.note.new.marks)) (words_of (vec_items c.write_action-in-If.new.marks)) (words_of (vec_items c.write_action-in-If-2.new.marks)) c.in-If.is c.deref-in-If.ensures c.deref-in-If-2.ensures c.in_ok-put-in-If.ensures c.in_ok-write_expression-in-If.ensures c.in_ok-note.ensures c.in_ok-write_action-in-If.ensures c.in_ok-write_action-in-If-2.ensures

pub returns-in_ok-write_action-in-Show : goal.returns-in_ok-write_action-in-Show
returns-in_ok-write_action-in-Show t c =
    show_row (vec_items c.args.out.now) (vec_items c.put-in-Show.new.out) (vec_items c.write_expression-in-Show.new.out) (vec_items c.write_action-in-Show.new.out) (words_of (vec_items c.args.marks.now)) (words_of (vec_items c.note.new.marks)) (words_of (vec_items c.write_action-in-Show.new.marks)) c.in-Show.is c.deref-in-Show.ensures c.in_ok-put-in-Show.ensures c.in_ok-write_expression-in-Show.ensures c.in_ok-note.ensures c.in_ok-write_action-in-Show.ensures

pub returns-in_ok-write_action-in-Start : goal.returns-in_ok-write_action-in-Start
returns-in_ok-write_action-in-Start t c =
    start_row (vec_items c.args.out.now) (vec_items c.write_handed.new.out) (vec_items c.write_action-in-Start.new.out) (words_of (vec_items c.args.marks.now)) (words_of (vec_items c.note.new.marks)) (words_of (vec_items c.write_action-in-Start.new.marks)) c.as_slice.result.now c.as_slice-in-Start.result.now c.in-Start.is c.as_slice.ensures.value c.as_slice-in-Start.ensures.value c.deref-in-Start.ensures c.in_ok-write_handed-in-Start.ensures c.in_ok-note.ensures c.in_ok-write_action-in-Start.ensures

pub returns-in_ok-write_handed-in-Become : goal.returns-in_ok-write_handed-in-Become
returns-in_ok-write_handed-in-Become t c =
    become_row (vec_items c.args.out.now) (vec_items c.write_handed-in-Become.new.out) (words_of (vec_items c.args.marks.now)) (words_of (vec_items c.note.new.marks)) c.as_slice-in-Become.result.now c.as_slice-in-Become-2.result.now c.in-Become.is c.as_slice-in-Become.ensures.value c.as_slice-in-Become-2.ensures.value c.in_ok-write_handed-in-Become.ensures c.in_ok-note.ensures
