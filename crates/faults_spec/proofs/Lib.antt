-- Each text's fault is the judge's or the timing's (Claims).
pub mod Claims
